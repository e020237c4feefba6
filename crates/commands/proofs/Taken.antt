-- Volumes that were read, taken in their pad.
use Rattle.std.proofs.Common.{◌≡◌, ℕ, ◌<◌, ◌≤◌, Bool, ltb, Some, None, Ok, Err, true, false, refl, sym, ap, subst, ◌∙◌, ℤ, pos, List, length, get_or, inl, inr, rules}
use Rattle.std.specs.Prelude.{if◌then◌else◌, Option, Result, IfOk, IfErr, IfSome, All}
use Rattle.iso_defs.specs.Grid.{Grid, point_count, is_outer}
use Rattle.iso_base.specs.Volume.{IsSample, is_above_pad, IsGrid, sized, IsVolume, Volume, sample, first_padded, grown, inner_point, padded_sample, padded_volume}
use Rattle.iso_base.specs.declared.sizes.SizeFault.{SizeFault}
use Rattle.iso_base.specs.declared.sizes.SizeFault.TheVariants.{TooThin, AxisTooLong, TooMany}
use Rattle.std.proofs.lemmas.Bool.{ltb-false}
use Rattle.voxel_list.proofs.Volumes.{padded_is}
use Rattle.iso_defs.specs.Lists.{below}
use Rattle.padded_samples.specs.Pads.{InPad, padded_list}
use Rattle.std.proofs.lemmas.Bool.{cases_lt}
use Rattle.std.proofs.lemmas.List.Elements.{All-from_get_or, All-get_or, All-map}
use Rattle.std.proofs.Math.ListN.{get_or-eq_default}
use Rattle.command_terms.specs.Volumes.{text_by, IsNoVolume, raised, volume_of, with_pad}
use Rattle.bench_core.specs.Machine.{IsAbovePad}
use Rattle.bench_core.specs.Surface.{IsWatertight}
use Rattle.bench_core.proofs.Surfaces.{watertight_of}
use Rattle.nrrd_read.specs.Files.{IsRead}
use Rattle.command_terms.specs.declared.reasons.NoVolume.{NoVolume}
use Rattle.command_terms.specs.declared.reasons.NoVolume.TheVariants as reasons
use Rattle.command_terms.proofs.ReadVolumes.{read_volume}
use Rattle.commands.specs.Volumes.{IsNotTaken}
use Rattle.program.specs.declared.answer.VolumeFault.{VolumeFault}
use Rattle.program.specs.declared.answer.VolumeFault.TheVariants.{Pad, LevelNotAbovePad}

-- a grown grid that is not refused is accepted
module _ (pad level : ℤ) (v : Volume) (g : Grid) (same : v.grid ≡ g) where
  at : with_pad (Some pad) level v ≡ raised pad level v (sized (grown g))
  at = ap (λ (h : Grid). raised pad level v (sized (grown h))) same

  by : (r : Result Grid SizeFault) → ((fault : SizeFault) → r ≡ Err fault → ⊥) → is_above_pad level pad ≡ true → raised pad level v r ≡ Ok (padded_volume v pad)
  by (Ok h) accepted above = rw above refl
  by (Err fault) accepted above = absurd (accepted fault refl)

  low : (r : Result Grid SizeFault) → ((fault : SizeFault) → r ≡ Err fault → ⊥) → is_above_pad level pad ≡ false → raised pad level v r ≡ Err (LevelNotAbovePad level pad)
  low (Ok h) accepted above = rw above refl
  low (Err fault) accepted above = absurd (accepted fault refl)

  pub taken : ((fault : SizeFault) → sized (grown g) ≡ Err fault → ⊥) → is_above_pad level pad ≡ true → with_pad (Some pad) level v ≡ Ok (padded_volume v pad)
  taken accepted above = at ∙ by (sized (grown g)) accepted above

  pub not_above : ((fault : SizeFault) → sized (grown g) ≡ Err fault → ⊥) → is_above_pad level pad ≡ false → with_pad (Some pad) level v ≡ Err (LevelNotAbovePad level pad)
  not_above accepted above = at ∙ low (sized (grown g)) accepted above

  pub not_sized : (fault : SizeFault) → sized (grown g) ≡ Err fault → with_pad (Some pad) level v ≡ Err (Pad fault)
  not_sized fault e = at ∙ ap (raised pad level v) e

-- a grid that is not refused is within the limits
peel : (c : Bool) (e : SizeFault) (r : Result Grid SizeFault) → ((f : SizeFault) → (if c then Err e else r) ≡ Err f → ⊥) → (c ≡ false) × ((f : SizeFault) → r ≡ Err f → ⊥)
peel true e r h = absurd (h e refl)
peel false e r h = (refl, h)

pub grid_of : (g : Grid) → ((f : SizeFault) → sized g ≡ Err f → ⊥) → IsGrid g
grid_of g h =
    let a = peel (ltb g.nx 2) (TooThin 0 g.nx) _ h in
    let b = peel (ltb g.ny 2) (TooThin 1 g.ny) _ a.1 in
    let c = peel (ltb g.nz 2) (TooThin 2 g.nz) _ b.1 in
    let d = peel (ltb 1026 g.nx) (AxisTooLong 0 g.nx) _ c.1 in
    let e = peel (ltb 1026 g.ny) (AxisTooLong 1 g.ny) _ d.1 in
    let f = peel (ltb 1026 g.nz) (AxisTooLong 2 g.nz) _ e.1 in
    let k = peel (ltb 160000000 (point_count g)) (TooMany (point_count g)) _ f.1 in
    record {
      x = record { least = ltb-false g.nx 2 a.0; most = ltb-false 1026 g.nx d.0 };
      y = record { least = ltb-false g.ny 2 b.0; most = ltb-false 1026 g.ny e.0 };
      z = record { least = ltb-false g.nz 2 c.0; most = ltb-false 1026 g.nz f.0 };
      count = ltb-false 160000000 (point_count g) k.0;
    }

-- the mesh of a volume that was taken is watertight
pub taken_watertight : (pad : Option ℤ) (level : ℤ) (v w : Volume) → IsVolume v → v.pad ≡ None → IfSome pad IsSample → with_pad pad level v ≡ Ok w → IsWatertight w level
taken_watertight None level v w is none range e =
    subst (λ (u : Volume). IsWatertight u level) (same v w e) (watertight_of v level is (subst (λ o. IsAbovePad o level) (sym none) tt))
  where
    same : (v w : Volume) → ◌≡◌ {A = Result Volume VolumeFault} (Ok v) (Ok w) → v ≡ w
    same v w e = cc
taken_watertight (Some pad) level v w is none range e = by (sized (grown v.grid)) refl e
  where
    same : (v w : Volume) → ◌≡◌ {A = Result Volume VolumeFault} (Ok v) (Ok w) → v ≡ w
    same v w e = cc

    by_above : (t : Bool) → is_above_pad level pad ≡ t → IsGrid (grown v.grid)
        → ◌≡◌ {A = Result Volume VolumeFault} (if t then Ok (padded_volume v pad) else Err (LevelNotAbovePad level pad)) (Ok w) → IsWatertight w level
    by_above true above fits e =
        subst (λ (u : Volume). IsWatertight u level) (same (padded_volume v pad) w e) (watertight_of (padded_volume v pad) level (padded_is v pad is none range fits) above)
    by_above false above fits e = absurd cc

    by : (r : Result Grid SizeFault) → sized (grown v.grid) ≡ r → raised pad level v r ≡ Ok w → IsWatertight w level
    by (Ok g) at e = by_above (is_above_pad level pad) refl (grid_of (grown v.grid) (λ f h. accepted f g h at)) e
      where
        accepted : (f : SizeFault) (g : Grid) → sized (grown v.grid) ≡ Err f → sized (grown v.grid) ≡ Ok g → ⊥
        accepted f g h at = cc
    by (Err fault) at e = absurd cc

-- the volume of samples in a pad
pub same_padded : (v : Volume) (p : InPad) (r : Grid) (pad : ℤ) → p ≡ record { grid = v.grid; samples = v.samples; pad = pad } → r ≡ grown p.grid
    → record { grid = r; kind = v.kind; pad = Some pad; samples = padded_list p } ≡ padded_volume v pad
same_padded v p r pad e f =
    ap (λ (q : InPad). record { grid = r; kind = v.kind; pad = Some pad; samples = padded_list q }) e
    ∙ ap (λ (g : Grid). record { grid = g; kind = v.kind; pad = Some pad; samples = first_padded v.grid v.samples pad (point_count (grown v.grid)) })
    (f ∙ ap (λ (q : InPad). grown q.grid) e)

pub padded_store : (v : Volume) (p : InPad) (r : Grid) (pad : ℤ) → p ≡ record { grid = v.grid; samples = v.samples; pad = pad } → r ≡ grown p.grid
    → IsVolume v → v.pad ≡ None → IsSample pad → IsGrid (grown p.grid) → IsVolume (record { grid = r; kind = v.kind; pad = Some pad; samples = padded_list p })
padded_store v p r pad e f is none range fits =
    subst IsVolume (sym (same_padded v p r pad e f)) (padded_is v pad is none range (subst (λ (q : InPad). IsGrid (grown q.grid)) e fits))

-- what is said of the volume that was read is said of the bytes
module _ (pad : Option ℤ) (level : ℤ) (bytes : List ℕ) (v : Volume) (read : IsRead bytes v) where
  pub if_taken : (r : Result Volume NoVolume) → IfOk r (λ w. with_pad pad level v ≡ Ok w) → IfOk r (λ w. volume_of pad level bytes ≡ Ok w)
  if_taken (Ok w) h = read_volume pad level bytes v (Ok w) read h
  if_taken (Err reason) h = tt

  not_taken : (reason : NoVolume) → IsNotTaken pad level v reason → IsNoVolume pad level bytes reason
  not_taken (reasons.Refused fault) h = read_volume pad level bytes v (Err fault) read h
  not_taken reasons.Memory h = tt

  pub if_not_taken : (r : Result Volume NoVolume) → IfErr r (IsNotTaken pad level v) → IfErr r (IsNoVolume pad level bytes)
  if_not_taken (Ok w) h = tt
  if_not_taken (Err reason) h = not_taken reason h

-- a text that was given is that of a volume that was taken
pub given_of : (text : Volume → List ℕ) (r : Result Volume VolumeFault) (all : List ℕ) → text_by text r ≡ Ok all → (w : Volume) × (r ≡ Ok w)
given_of text (Ok w) all e = (w, refl)
given_of text (Err fault) all e = absurd cc

-- samples in the range of samples, in a pad of that range
any_sample : (samples : List ℤ) (i : ℕ) → All IsSample samples → IsSample (sample samples i)
any_sample samples i all = elim (cases_lt i (length samples)) [
  | inl low ↦ All-get_or IsSample samples i (pos 0) low all
  | inr high ↦ subst IsSample (sym (get_or-eq_default samples (pos 0) high)) zero_is
]
  where
    zero_is : IsSample (pos 0)
    zero_is = search rules

one_padded : (g : Grid) (samples : List ℤ) (pad : ℤ) (p : ℕ) → All IsSample samples → IsSample pad → IsSample (padded_sample g samples pad p)
unfolding padded_sample
one_padded g samples pad p all is = by (is_outer (grown g) p)
  where
    by : (t : Bool) → IsSample (if t then pad else sample samples (inner_point g p))
    by true = is
    by false = any_sample samples (inner_point g p) all

pub all_padded : (g : Grid) (samples : List ℤ) (pad : ℤ) (n : ℕ) → All IsSample samples → IsSample pad → All IsSample (first_padded g samples pad n)
all_padded g samples pad n all is =
    All-map IsSample (padded_sample g samples pad) (below n) (All-from_get_or (λ p. IsSample (padded_sample g samples pad p)) (below n) 0 (λ i low. one_padded g samples pad (get_or (below n) i 0) all is))
