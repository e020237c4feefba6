use Rattle.std.proofs.Common.{◌≡◌, ◌∙◌, ℕ, ℤ, pos, List, ◌<◌, ◌≤◌, ◌^◌, All, ap, inl, inr, arith, subst, sym, length, false, slice_index_or, unsigned_abs}
use Rattle.std.proofs.lemmas.Bool.{cases_lt}
use Rattle.std.proofs.lemmas.List.{get_or-map, get_or_past}
use Rattle.std.proofs.lemmas.List.Elements.{All-get_or}
use Rattle.iso_defs.specs.Cell.{edge_corner, signs_of}
use Rattle.iso_defs.specs.Face.{holds_at}
use Rattle.iso_defs.specs.Place.{place}
use Rattle.iso_defs.specs.Grid.{differ, is_above}
use Rattle.mesh_laws.proofs.Apart.{by_twelve}
use Rattle.measure.proofs.Exact.{stored, stored_is}
use Rattle.component_walk.specs.Local.{IsNear, lanes_of, local_place, local_vertex, lower_value, upper_corner, upper_value, vertex_at}
use Rattle.component_walk.proofs.positions.local_lanes.Goals as goal

-- a value of the list is what the code reads
read_is : (hs : List ℤ) → All (λ h. unsigned_abs h < 2 ^ 44) hs → (k : ℕ) → stored (slice_index_or hs k (pos 0)) ≡ slice_index_or hs k (pos 0)
read_is hs small k =
    let low : unsigned_abs (slice_index_or hs k (pos 0)) < 2 ^ 44
    = elim (cases_lt k (length hs)) [
      | inl l ↦ All-get_or (λ h. unsigned_abs h < 2 ^ 44) hs k (pos 0) l small
      | inr l ↦ subst (λ h. unsigned_abs h < 2 ^ 44) (sym (get_or_past hs k (pos 0) l)) (omega arith)
    ] in
    stored_is (slice_index_or hs k (pos 0)) (omega arith)

module _ (hs : List ℤ) (e m n : ℕ) (small : All (λ h. unsigned_abs h < 2 ^ 44) hs) (long : length hs ≡ 8) (lower_is : m ≡ edge_corner e) (upper_is : n ≡ upper_corner e) where
  abbrev read : ℕ → ℤ
  read k = stored (slice_index_or hs k (pos 0))

  low_is : read m ≡ lower_value hs e
  low_is = read_is hs small m ∙ ap (λ k. slice_index_or hs k (pos 0)) lower_is

  high_is : read n ≡ upper_value hs e
  high_is = read_is hs small n ∙ ap (λ k. slice_index_or hs k (pos 0)) upper_is

  pub place_is : place (read m) (read n) ≡ local_place hs e
  place_is = ap (λ z. place z (read n)) low_is ∙ ap (λ z. place (lower_value hs e) z) high_is

  sign_is : (k : ℕ) → k < 8 → is_above (slice_index_or hs k (pos 0)) ≡ holds_at (signs_of hs) k
  sign_is k h = sym (get_or-map is_above hs k (pos 0) false (omega (arith, long, h)))

  pub signs_are : m < 8 → n < 8 → differ (is_above (read m)) (is_above (read n)) ≡ differ (holds_at (signs_of hs) (edge_corner e)) (holds_at (signs_of hs) (upper_corner e))
  signs_are low high =
      ap (λ t. differ t (is_above (read n))) (ap is_above low_is ∙ sign_is (edge_corner e) (subst (λ k. k < 8) lower_is low))
      ∙ ap (differ (holds_at (signs_of hs) (edge_corner e))) (ap is_above high_is ∙ sign_is (upper_corner e) (subst (λ k. k < 8) upper_is high))

pub place-requires-clause-apart : goal.place-requires-clause-apart
place-requires-clause-apart c =
    let long : length c.args.heights.now ≡ 8 = omega arith in
    signs_are c.args.heights.now c.args.edge c.lower_corner.result c.upper_corner.result c.requires.bound long c.lower_corner.ensures.value c.upper_corner.ensures.value c.lower_corner.ensures.bound c.upper_corner.ensures.bound
    ∙ c.requires.crossing

pub returns-clause-value : goal.returns-clause-value
unfolding local_vertex
returns-clause-value c =
    let long : length c.args.heights.now ≡ 8 = omega arith in
    let at : c.place.result ≡ local_place c.args.heights.now c.args.edge
    = c.place.ensures.value ∙ place_is c.args.heights.now c.args.edge c.lower_corner.result c.upper_corner.result c.requires.bound long c.lower_corner.ensures.value c.upper_corner.ensures.value in
    c.lanes.ensures.value ∙ ap (λ p. lanes_of (vertex_at (λ _. p) c.args.edge)) at

-- no coordinate is beyond the cell
near_all : (p : ℕ) → p ≤ 1000 → (e : ℕ) → e < 12 → IsNear 1000 (vertex_at (λ _. p) e)
near_all p h =
    by_twelve (λ e. IsNear 1000 (vertex_at (λ _. p) e))
    (record { x = omega (arith, h); y = omega (arith, h); z = omega (arith, h) }) (record { x = omega (arith, h); y = omega (arith, h); z = omega (arith, h) })
    (record { x = omega (arith, h); y = omega (arith, h); z = omega (arith, h) }) (record { x = omega (arith, h); y = omega (arith, h); z = omega (arith, h) })
    (record { x = omega (arith, h); y = omega (arith, h); z = omega (arith, h) }) (record { x = omega (arith, h); y = omega (arith, h); z = omega (arith, h) })
    (record { x = omega (arith, h); y = omega (arith, h); z = omega (arith, h) }) (record { x = omega (arith, h); y = omega (arith, h); z = omega (arith, h) })
    (record { x = omega (arith, h); y = omega (arith, h); z = omega (arith, h) }) (record { x = omega (arith, h); y = omega (arith, h); z = omega (arith, h) })
    (record { x = omega (arith, h); y = omega (arith, h); z = omega (arith, h) }) (record { x = omega (arith, h); y = omega (arith, h); z = omega (arith, h) })

pub returns-clause-near : goal.returns-clause-near
unfolding local_vertex
returns-clause-near c =
    let long : length c.args.heights.now ≡ 8 = omega arith in
    let at : c.place.result ≡ local_place c.args.heights.now c.args.edge
    = c.place.ensures.value ∙ place_is c.args.heights.now c.args.edge c.lower_corner.result c.upper_corner.result c.requires.bound long c.lower_corner.ensures.value c.upper_corner.ensures.value in
    near_all (local_place c.args.heights.now c.args.edge) (subst (λ p. p ≤ 1000) at c.place.ensures.bound) c.args.edge c.requires.edge
