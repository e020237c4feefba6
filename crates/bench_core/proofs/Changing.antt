-- Changes of samples lead on and back.
use Rattle.std.proofs.Common.{◌≡◌, ℕ, ◌<◌, List, All, length, refl, sym, ap, subst, ◌∙◌, ℤ}
use Rattle.std.specs.Prelude.{Some, slice_set}
use Rattle.iso_defs.specs.Grid.{point_count}
use Rattle.iso_defs.proofs.Points.{index_of_point}
use Rattle.iso_base.specs.Points.{index_of, point_at}
use Rattle.iso_base.specs.Volume.{IsOfKind, Volume, IsVolume, IsInner, sample}
use Rattle.iso_base.specs.declared.point.Point.{Point}
use Rattle.voxel_list.specs.Areas.{Area, between}
use Rattle.edit_log.specs.declared.change.Change.TheVariants as changes
use Rattle.edit_log.specs.Log.{IsBox, IsInnerArea, area_samples, filled, restored}
use Rattle.edit_log.specs.Changes.{moment, with_samples}
use Rattle.edit_log.proofs.Inverses.{set_back, restored-filled, length-area_samples, area_samples_are}
use Rattle.unpadded_volume.specs.Unpadded.{IsInside}
use Rattle.bench_core.specs.Machine.{with_sample}
use Rattle.bench_core.specs.History.{Leads}
use Rattle.unpadded_volume.proofs.Insides.{inside_is_inner, inside_area}

-- a box between points inside holds no pad
pub inner_area : (v : Volume) (a : Area) → IsInside v a.low → IsInside v a.high → IsInnerArea v a
inner_area v a low high p here within =
    subst (IsInner v) (index_of_point v.grid p here) (inside_is_inner v (point_at v.grid p) (inside_area v a (point_at v.grid p) low high within))

pub one_leads : (v : Volume) (level : ℤ) (p : Point) (i : ℕ) (old new : ℤ) → IsVolume v → IsInside v p → IsOfKind v.kind new
    → i ≡ index_of v.grid p → i < point_count v.grid → point_at v.grid i ≡ p → old ≡ sample v.samples (index_of v.grid p)
    → Leads (moment v level) (with_samples (moment v level) (with_sample v.grid p new v.samples)) (changes.One i old new) (Some (between p p))
unfolding with_sample
one_leads v level p i old new is inside kind at low found was =
    let inner : IsInner v i = subst (IsInner v) (sym at) (inside_is_inner v p inside) in
    let is_old : old ≡ sample v.samples i = was ∙ ap (sample v.samples) (sym at) in
    record {
      suits = record { within = low; inner = inner; old = subst (IsOfKind v.kind) (sym is_old) (is.each i low inner); new = kind };
      made = ap (λ k. with_samples (moment v level) (slice_set v.samples k new)) at;
      back = ap (λ k. with_samples (moment v level) (slice_set (slice_set v.samples k new) i old)) (sym at)
          ∙ ap (with_samples (moment v level)) (set_back v.samples i old new (subst (λ n. i < n) (sym is.count) low) is_old);
      area = ap (λ q. Some (between q q)) found;
    }

pub area_leads : (v : Volume) (level : ℤ) (a : Area) (old : List ℤ) (new : ℤ) → IsVolume v → IsBox v.grid a → IsInside v a.low → IsInside v a.high → IsOfKind v.kind new
    → old ≡ area_samples v.grid a v.samples
    → Leads (moment v level) (with_samples (moment v level) (filled v.grid a new v.samples)) (changes.Area a old new) (Some a)
area_leads v level a old new is box low high kind was =
    let inner : IsInnerArea v a = inner_area v a low high in
    record {
      suits = record {
        within = box.high;
        inner = inner;
        count = ap length was ∙ length-area_samples v.grid a v.samples;
        old = subst (All (IsOfKind v.kind)) (sym was) (area_samples_are v a is box inner);
        new = kind;
      };
      made = refl;
      back = ap (λ l. with_samples (moment v level) (restored v.grid a l (filled v.grid a new v.samples))) was
          ∙ ap (with_samples (moment v level)) (restored-filled v.grid a new v.samples box is.count);
      area = refl;
    }
