-- Flags that are written over signs, front to back.
use Rattle.std.proofs.Common.{◌≡◌, ℕ, ◌+◌, ◌-◌, ◌*◌, ◌<◌, ◌≤◌, List, cond, map, length, get_or, sym, ◌∙◌, ap, subst, inl, inr, arith, zero-add}
use Rattle.std.specs.List.{range_with_len}
use Rattle.std.proofs.lemmas.Bool.{cases_lt}
use Rattle.std.proofs.lemmas.List.{ext_get_or}
use Rattle.std.proofs.lemmas.List.FromFn.{get_or-map-range_with_len, length-map-range_with_len}
use Rattle.iso_defs.specs.Grid.{Grid, has_next, point_count, stride}
use Rattle.crossing_edges.specs.Signs.{apart, sign_flags, step_apart}

-- the flags of a point are made of its sign and those of later points
later_step : (g : Grid) (xs ys : List ℕ) (a p axis : ℕ) → a ≤ p → ((q : ℕ) → a ≤ q → get_or xs q 0 ≡ get_or ys q 0) → step_apart g xs p axis ≡ step_apart g ys p axis
later_step g xs ys a p axis late same =
    let next : ℕ = p + stride g axis in
    ap (λ n. cond (has_next g axis p) (apart n (get_or xs next 0)) 0) (same p late) ∙ ap (λ n. cond (has_next g axis p) (apart (get_or ys p 0) n) 0) (same next (omega arith))

later_flags : (g : Grid) (xs ys : List ℕ) (a p : ℕ) → a ≤ p → ((q : ℕ) → a ≤ q → get_or xs q 0 ≡ get_or ys q 0) → sign_flags g xs p ≡ sign_flags g ys p
later_flags g xs ys a p late same =
    let steps : ℕ → ℕ → ℕ → ℕ = λ x y z. x + (2 * y + 4 * z) in
    ap (λ x. steps x (step_apart g xs p 1) (step_apart g xs p 2)) (later_step g xs ys a p 0 late same)
    ∙ (ap (λ y. steps (step_apart g ys p 0) y (step_apart g xs p 2)) (later_step g xs ys a p 1 late same)
    ∙ ap (steps (step_apart g ys p 0) (step_apart g ys p 1)) (later_step g xs ys a p 2 late same))

-- one row more
pub row_more : (g : Grid) (signs old new : List ℕ) (a e : ℕ) → e ≡ a + g.nx
    → ((p : ℕ) → p < a → get_or old p 0 ≡ sign_flags g signs p) → ((p : ℕ) → a ≤ p → get_or old p 0 ≡ get_or signs p 0)
    → ((i : ℕ) → i < g.nx → get_or new (a + i) 0 ≡ sign_flags g old (a + i)) → ((p : ℕ) → p < a → get_or new p 0 ≡ get_or old p 0)
    → (p : ℕ) → p < e → get_or new p 0 ≡ sign_flags g signs p
row_more g signs old new a e end flags rest inside before p low = elim (cases_lt p a) [
  | inl earlier ↦ before p earlier ∙ flags p earlier
  | inr late ↦ (
      let place : a + (p - a) ≡ p = omega arith in
      subst (λ q. get_or new q 0 ≡ sign_flags g signs q) place (inside (p - a) (omega arith) ∙ later_flags g old signs a (a + (p - a)) (omega arith) rest))
]

-- all rows
pub all_written : (g : Grid) (signs bits : List ℕ) → length bits ≡ point_count g → ((p : ℕ) → p < point_count g → get_or bits p 0 ≡ sign_flags g signs p)
    → bits ≡ map (sign_flags g signs) (range_with_len 0 (point_count g))
all_written g signs bits len each =
    ext_get_or 0 bits (map (sign_flags g signs) (range_with_len 0 (point_count g))) (len ∙ sym (length-map-range_with_len (sign_flags g signs) 0 (point_count g)))
    (λ i h. (let low : i < point_count g = omega (arith, len) in
    each i low ∙ sym (get_or-map-range_with_len (sign_flags g signs) 0 (point_count g) i i 0 low (zero-add i))))
