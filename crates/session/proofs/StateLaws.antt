-- Steps lead from states to states.
use Rattle.std.proofs.Common.{◌≡◌, ℕ, ◌+◌, ◌-◌, ◌*◌, ◌<◌, ◌≤◌, Bool, true, false, cond, List, [], ◌∷◌, Ok, Err, refl, sym, ap, subst, ◌∙◌, arith, ℤ, pos, negsuc}
use Rattle.std.specs.Prelude.{Option, Some, None, Result, IfSome, MatchOption, not, nat_lt, int_le, unsigned_abs}
use Rattle.std.proofs.lemmas.Int.{ints}
use Rattle.std.proofs.lemmas.Bool.{and_parts, ltb-true}
use Rattle.iso_defs.specs.Grid.{point_count, is_outer}
use Rattle.iso_defs.proofs.Points.{index_in, index_of_point}
use Rattle.iso_base.specs.Points.{index_of, point_at}
use Rattle.iso_base.specs.Volume.{IsOfKind, greatest_of, least_of, is_above_pad, level_limit, HoldsPad, IsInner, IsVolume, Volume, layer, sample}
use Rattle.iso_base.specs.declared.fault.BenchFault.{BenchFault}
use Rattle.iso_base.specs.declared.fault.BenchFault.TheVariants.{FillTooLarge, LevelNotAbovePad, LevelOutside}
use Rattle.iso_base.specs.declared.kind.SampleKind.{SampleKind}
use Rattle.iso_base.specs.declared.point.Point.{Point}
use Rattle.voxel_list.specs.Areas.{Area, area_count, between, is_in_area}
use Rattle.voxel_list.proofs.Volumes.{set_keeps}
use Rattle.edit_log.specs.Log.{filled}
use Rattle.brick_store.proofs.Replacing.{length-replaced, sample-replaced}
use Rattle.unpadded_volume.specs.Unpadded.{IsInside, place_of, plane_of, point_by, stored_coordinate}
use Rattle.unpadded_volume.proofs.Insides.{free, inside_area, inside_is_inner}
use Rattle.bench_core.specs.Machine.{Entry, IsAbovePad, IsState, State, area_by, changed, checked_level, contour_by, contour_step, fill_at, fill_step, is_of_kind, level_by, level_step, pad_fault, redo_by, redo_step, set_at, set_step, undo_by, undo_step, level_unless, value_fault, with_sample}
use Rattle.bench_core.specs.Windows.{stays_unless, window_area, window_fault, window_step}
use Rattle.bench_core.proofs.States.{changed_state, redone_state, undone_state}

-- ---- where a step leads

abbrev leads_to : State → Result State BenchFault
leads_to s = Ok s

same_ok : {s t : State} → leads_to s ≡ leads_to t → s ≡ t
same_ok e = cc

abbrev accepted : ℤ → Result ℤ BenchFault
accepted v = Ok v

same_level : {a b : ℤ} → accepted a ≡ accepted b → a ≡ b
same_level e = cc

no_fault : {T : Type 0} {fault : BenchFault} {x : T} → Err fault ≡ Ok x → ⊥
no_fault e = absurd cc

same_point : {p q : Point} → Some p ≡ Some q → p ≡ q
same_point e = cc

same_area : {a b : Area} → Some a ≡ Some b → a ≡ b
same_area e = cc

same_number : {a b : ℕ} → Some a ≡ Some b → a ≡ b
same_number e = cc

no_some : {T : Type 0} {x : T} → None ≡ Some x → ⊥
no_some e = absurd cc

-- ---- points of commands are inside

stored_inside : (n l : ℕ) (x : ℤ) (q : ℕ) → stored_coordinate n l x ≡ Some q → (l ≤ q) × (q + l < n)
stored_inside n l (negsuc x) q e = absurd (no_some e)
stored_inside n l (pos x) q e = by_test (nat_lt x (n - 2 * l)) refl e
  where
    by_test : (t : Bool) → nat_lt x (n - 2 * l) ≡ t → cond t (Some (x + l)) None ≡ Some q → (l ≤ q) × (q + l < n)
    by_test false t e = absurd (no_some e)
    by_test true t e =
        let lt : x < n - 2 * l = ltb-true x (n - 2 * l) t in
        let is : x + l ≡ q = same_number e in
        (omega (arith, is), omega (arith, is, lt))

place_inside : (v : Volume) (at : ℤ × ℤ × ℤ) (p : Point) → place_of v at ≡ Some p → IsInside v p
unfolding place_of
place_inside v at p e = by_parts (stored_coordinate v.grid.nx (layer v.pad) at.0) (stored_coordinate v.grid.ny (layer v.pad) at.1) (stored_coordinate v.grid.nz (layer v.pad) at.2) refl refl refl e
  where
    by_parts : (x y z : Option ℕ) → stored_coordinate v.grid.nx (layer v.pad) at.0 ≡ x → stored_coordinate v.grid.ny (layer v.pad) at.1 ≡ y → stored_coordinate v.grid.nz (layer v.pad) at.2 ≡ z → point_by x y z ≡ Some p → IsInside v p
    by_parts None y z ex ey ez e = absurd (no_some e)
    by_parts (Some x) None z ex ey ez e = absurd (no_some e)
    by_parts (Some x) (Some y) None ex ey ez e = absurd (no_some e)
    by_parts (Some x) (Some y) (Some z) ex ey ez e =
        let is = same_point e in
        let px : x ≡ p.x = ap (λ (q : Point). q.x) is in
        let py : y ≡ p.y = ap (λ (q : Point). q.y) is in
        let pz : z ≡ p.z = ap (λ (q : Point). q.z) is in
        let hx = stored_inside v.grid.nx (layer v.pad) at.0 x ex in
        let hy = stored_inside v.grid.ny (layer v.pad) at.1 y ey in
        let hz = stored_inside v.grid.nz (layer v.pad) at.2 z ez in
        record {
          low_x = omega (arith, px, hx.0);
          high_x = omega (arith, px, hx.1);
          low_y = omega (arith, py, hy.0);
          high_y = omega (arith, py, hy.1);
          low_z = omega (arith, pz, hz.0);
          high_z = omega (arith, pz, hz.1);
        }

between_inside : (v : Volume) (p q : Point) → IsInside v p → IsInside v q → IsInside v (between p q).low × IsInside v (between p q).high
between_inside v p q a b = (
  record {
    low_x = omega (arith, a.low_x, b.low_x);
    high_x = omega (arith, a.high_x, b.high_x);
    low_y = omega (arith, a.low_y, b.low_y);
    high_y = omega (arith, a.high_y, b.high_y);
    low_z = omega (arith, a.low_z, b.low_z);
    high_z = omega (arith, a.high_z, b.high_z);
  },
  record {
    low_x = omega (arith, a.low_x, b.low_x);
    high_x = omega (arith, a.high_x, b.high_x);
    low_y = omega (arith, a.low_y, b.low_y);
    high_y = omega (arith, a.high_y, b.high_y);
    low_z = omega (arith, a.low_z, b.low_z);
    high_z = omega (arith, a.high_z, b.high_z);
  },
)

area_inside : (v : Volume) (p q : Option Point) (a : Area) → ((x : Point) → p ≡ Some x → IsInside v x) → ((x : Point) → q ≡ Some x → IsInside v x) → area_by p q ≡ Some a → IsInside v a.low × IsInside v a.high
area_inside v None q a hp hq e = absurd (no_some e)
area_inside v (Some p) None a hp hq e = absurd (no_some e)
area_inside v (Some p) (Some q) a hp hq e =
    subst (λ (b : Area). IsInside v b.low × IsInside v b.high) (same_area e) (between_inside v p q (hp p refl) (hq q refl))

-- ---- changed samples are those of a volume

of_kind : (kind : SampleKind) (v : ℤ) → is_of_kind kind v ≡ true → IsOfKind kind v
of_kind kind v e =
    let both = and_parts (int_le (least_of kind) v) (int_le v (greatest_of kind)) e in
    let low : int_le (least_of kind) v ≡ true = both.0 in
    let high : int_le v (greatest_of kind) ≡ true = both.1 in
    record { low = omega (arith, ints); high = omega (arith, ints) }

set_volume : (v : Volume) (p : Point) (value : ℤ) → IsVolume v → IsInside v p → IsOfKind v.kind value → IsVolume (record v { samples = with_sample v.grid p value v.samples })
unfolding with_sample
set_volume v p value is inside kind =
    set_keeps v (index_of v.grid p) value is (index_in v.grid p.x p.y p.z (omega (arith, inside.high_x)) (omega (arith, inside.high_y)) (omega (arith, inside.high_z))) (free v p value inside) (λ _. kind)

-- a volume in which a box inside is filled
module _ (v : Volume) (a : Area) (value : ℤ) (is : IsVolume v) (low : IsInside v a.low) (high : IsInside v a.high) (kind : IsOfKind v.kind value) where
  there : (p : ℕ) → p < point_count v.grid → sample (filled v.grid a value v.samples) p ≡ cond (is_in_area v.grid a p) value (sample v.samples p)
  there p lt = sample-replaced (is_in_area v.grid a) (λ _. value) v.samples p (subst (λ (n : ℕ). p < n) (sym is.count) lt)

  inner_point : (p : ℕ) → p < point_count v.grid → is_in_area v.grid a p ≡ true → IsInner v p
  inner_point p lt within = subst (IsInner v) (index_of_point v.grid p lt) (inside_is_inner v (point_at v.grid p) (inside_area v a (point_at v.grid p) low high within))

  not_outer : (p : ℕ) (pad : ℤ) → v.pad ≡ Some pad → p < point_count v.grid → is_in_area v.grid a p ≡ true → is_outer v.grid p ≡ true → ⊥
  not_outer p pad e lt within outer =
      let inner : not (is_outer v.grid p) ≡ true = subst (λ (o : Option ℤ). MatchOption o (Unit {0}) (λ _. not (is_outer v.grid p) ≡ true)) e (inner_point p lt within) in
      absurd cc

  each_of : (p : ℕ) → p < point_count v.grid → IsInner v p → (t : Bool) → is_in_area v.grid a p ≡ t → IsOfKind v.kind (cond t value (sample v.samples p))
  each_of p lt inner true t = kind
  each_of p lt inner false t = is.each p lt inner

  pad_of : (p : ℕ) (pad : ℤ) → v.pad ≡ Some pad → p < point_count v.grid → is_outer v.grid p ≡ true → sample v.samples p ≡ pad → (t : Bool) → is_in_area v.grid a p ≡ t → cond t value (sample v.samples p) ≡ pad
  pad_of p pad e lt outer holds true t = absurd (not_outer p pad e lt t outer)
  pad_of p pad e lt outer holds false t = holds

  holds_of : (o : Option ℤ) → v.pad ≡ o → IfSome o (HoldsPad v) → IfSome o (HoldsPad (record v { samples = filled v.grid a value v.samples }))
  holds_of None e h = tt
  holds_of (Some pad) e h = λ p lt outer. there p lt ∙ pad_of p pad e lt outer (h p lt outer) (is_in_area v.grid a p) refl

  fill_volume : IsVolume (record v { samples = filled v.grid a value v.samples })
  fill_volume = record {
    grid = is.grid;
    inner = is.inner;
    count = length-replaced (is_in_area v.grid a) (λ _. value) v.samples ∙ is.count;
    pad = is.pad;
    holds = holds_of v.pad refl is.holds;
    each = λ p lt inner. subst (IsOfKind v.kind) (sym (there p lt)) (each_of p lt inner (is_in_area v.grid a p) refl);
  }

-- ---- steps

module _ (s s' : State) (is : IsState s) where
  -- a change to samples of a volume, at a level above the pad
  to_changed : (samples : List ℤ) (level : ℤ) (area : Option Area) → IsVolume (record s.volume { samples = samples }) → IsAbovePad s.volume.pad level → changed s samples level area ≡ s' → IsState s'
  to_changed samples level area volume above e = subst IsState e (changed_state s samples level area is volume above)

  set_to : (value : ℤ) (p : Option Point) → ((x : Point) → p ≡ Some x → IsInside s.volume x) → set_at s value p ≡ Ok s' → IsState s'
  set_to value None inside e = absurd (no_fault e)
  set_to value (Some p) inside e = by_kind (is_of_kind s.volume.kind value) refl e
    where
      by_kind : (t : Bool) → is_of_kind s.volume.kind value ≡ t
          → cond t (Ok (changed s (with_sample s.volume.grid p value s.volume.samples) s.level (Some (between p p)))) (Err (value_fault s)) ≡ Ok s' → IsState s'
      by_kind false t e = absurd (no_fault e)
      by_kind true t e = to_changed _ s.level (Some (between p p)) (set_volume s.volume p value is.volume (inside p refl) (of_kind s.volume.kind value t)) is.above (same_ok e)

  pub set_state : (at : ℤ × ℤ × ℤ) (value : ℤ) → set_step s at value ≡ Ok s' → IsState s'
  set_state at value e = set_to value (place_of s.volume at) (λ x e. place_inside s.volume at x e) e

  fill_to : (value : ℤ) (a : Option Area) → ((x : Area) → a ≡ Some x → IsInside s.volume x.low × IsInside s.volume x.high) → fill_at s value a ≡ Ok s' → IsState s'
  fill_to value None inside e = absurd (no_fault e)
  fill_to value (Some a) inside e = by_tests (is_of_kind s.volume.kind value) (nat_lt 1048576 (area_count a)) refl e
    where
      by_tests : (t u : Bool) → is_of_kind s.volume.kind value ≡ t
          → cond t (cond u (Err (FillTooLarge (area_count a))) (Ok (changed s (filled s.volume.grid a value s.volume.samples) s.level (Some a)))) (Err (value_fault s)) ≡ Ok s' → IsState s'
      by_tests false u t e = absurd (no_fault e)
      by_tests true true t e = absurd (no_fault e)
      by_tests true false t e =
          to_changed _ s.level (Some a) (fill_volume s.volume a value is.volume (inside a refl).0 (inside a refl).1 (of_kind s.volume.kind value t)) is.above (same_ok e)

  pub fill_state : (a b : ℤ × ℤ × ℤ) (value : ℤ) → fill_step s a b value ≡ Ok s' → IsState s'
  fill_state a b value e =
      fill_to value (area_by (place_of s.volume a) (place_of s.volume b))
      (λ x e. area_inside s.volume (place_of s.volume a) (place_of s.volume b) x (λ p e. place_inside s.volume a p e) (λ p e. place_inside s.volume b p e) e) e

  level_to : (r : Result ℤ BenchFault) → ((v : ℤ) → r ≡ Ok v → IsAbovePad s.volume.pad v) → level_by s r ≡ Ok s' → IsState s'
  level_to (Err fault) above e = absurd (no_fault e)
  level_to (Ok v) above e = to_changed s.volume.samples v None is.volume (above v refl) (same_ok e)

-- a level that was checked is above the pad
above_pad : (pad : Option ℤ) (v l : ℤ) → level_unless (pad_fault pad v) v ≡ Ok l → IsAbovePad pad l
above_pad None v l e = tt
above_pad (Some pad) v l e = by_test (is_above_pad v pad) refl e
  where
    by_test : (t : Bool) → is_above_pad v pad ≡ t → level_unless (cond t None (Some (LevelNotAbovePad v pad))) v ≡ Ok l → is_above_pad l pad ≡ true
    by_test false t e = absurd (no_fault e)
    by_test true t e = ap (λ (x : ℤ). is_above_pad x pad) (sym (same_level e)) ∙ t

level_above : (pad : Option ℤ) (v l : ℤ) → checked_level pad v ≡ Ok l → IsAbovePad pad l
level_above pad v l e = by_test (nat_lt (unsigned_abs v) level_limit) e
  where
    by_test : (t : Bool) → cond t (level_unless (pad_fault pad v) v) (Err LevelOutside) ≡ Ok l → IsAbovePad pad l
    by_test false e = absurd (no_fault e)
    by_test true e = above_pad pad v l e

pub level_state : (s s' : State) → IsState s → (v : ℤ) → level_step s v ≡ Ok s' → IsState s'
level_state s s' is v e = level_to s s' is (checked_level s.volume.pad v) (λ l e. level_above s.volume.pad v l e) e

undo_to : (s s' : State) (past : List Entry) → IsState s → s.past ≡ past → undo_by s past ≡ Ok s' → IsState s'
undo_to s s' [] is so e = absurd (no_fault e)
undo_to s s' (w ∷ past) is so e = subst IsState (same_ok e) (undone_state s w past is so)

pub undo_state : (s s' : State) → IsState s → undo_step s ≡ Ok s' → IsState s'
undo_state s s' is e = undo_to s s' s.past is refl e

redo_to : (s s' : State) (future : List Entry) → IsState s → s.future ≡ future → redo_by s future ≡ Ok s' → IsState s'
redo_to s s' [] is so e = absurd (no_fault e)
redo_to s s' (w ∷ future) is so e = subst IsState (same_ok e) (redone_state s w future is so)

pub redo_state : (s s' : State) → IsState s → redo_step s ≡ Ok s' → IsState s'
redo_state s s' is e = redo_to s s' s.future is refl e

contour_to : (s s' : State) (k : ℤ) (plane : Option ℕ) → IsState s → contour_by s k plane ≡ Ok s' → IsState s'
contour_to s s' k None is e = absurd (no_fault e)
contour_to s s' k (Some plane) is e = subst IsState (same_ok e) is

pub contour_state : (s s' : State) (k : ℤ) → IsState s → contour_step s k ≡ Ok s' → IsState s'
contour_state s s' k is e = contour_to s s' k (plane_of s.volume k) is e

-- a window leaves the state
left_state : (s s' : State) (fault : Option BenchFault) → IsState s → stays_unless s fault ≡ Ok s' → IsState s'
left_state s s' None is e = subst IsState (same_ok e) is
left_state s s' (Some fault) is e = absurd (no_fault e)

pub window_state : (s s' : State) → IsState s → (corners : List ℤ) → window_step s corners ≡ Ok s' → IsState s'
window_state s s' is corners e = left_state s s' (window_fault (window_area s.volume corners)) is e

pub same_state : (s s' : State) → IsState s → leads_to s ≡ leads_to s' → IsState s'
same_state s s' is e = subst IsState (same_ok e) is
