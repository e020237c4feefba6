-- Each of the 32 rows is right: one test over the table, and what it says of a row.
use Rattle.std.proofs.Common.{◌≡◌, ℕ, ◌+◌, ◌<◌, ◌==◌, Bool, true, false, ◌&&◌, cond, List, [], ◌∷◌, slice_index, slice_index_or, refl, ap₂}
use Rattle.std.proofs.lemmas.Bool.{and_parts, eqb-true}
use Rattle.iso_defs.specs.Lists.{has_pair}
use Rattle.iso_defs.specs.Face.{segments}
use Rattle.iso_defs.specs.Bricks.{bits_of}
use Rattle.case_laws.proofs.Cases.{all_below, same}
use Rattle.case_laws.proofs.Tests.{all_below_at}
use Rattle.face_decider.specs.Cycle.{cycle_ends}
use Rattle.face_decider.specs.declared.TheConstants.{ROWS}

-- whether two lists of numbers are equal
abbrev pub same_numbers : List ℕ → List ℕ → Bool
same_numbers [] [] = true
same_numbers [] (y ∷ ys) = false
same_numbers (x ∷ xs) [] = false
same_numbers (x ∷ xs) (y ∷ ys) = x == y && same_numbers xs ys

pub same_numbers-true : (xs ys : List ℕ) → same_numbers xs ys ≡ true → xs ≡ ys
same_numbers-true [] [] h = refl
same_numbers-true [] (y ∷ ys) h = cc
same_numbers-true (x ∷ xs) [] h = cc
same_numbers-true (x ∷ xs) (y ∷ ys) h =
    let parts = and_parts (x == y) (same_numbers xs ys) h in
    ap₂ (λ z zs. z ∷ zs) (eqb-true x y parts.0) (same_numbers-true xs ys parts.1)

same_true : (a b : Bool) → same a b ≡ true → a ≡ b
same_true true true h = refl
same_true true false h = cc
same_true false true h = cc
same_true false false h = refl

-- the row at a place has the ends of its segments
abbrev ends_fit : List Bool → Bool → List ℕ → Bool
ends_fit signs joined row =
    same_numbers row (cycle_ends signs joined)
    && all_below 4 (λ i. all_below 4 (λ k. same (slice_index row i == k) (has_pair (segments signs joined) i k)))

abbrev rows_fit : Bool → ℕ → Bool
rows_fit joined signs = ends_fit (bits_of 4 signs) joined (slice_index_or ROWS (cond joined (signs + 16) signs) [])

all_fit : (joined : Bool) → all_below 16 (rows_fit joined) ≡ true
all_fit true = refl
all_fit false = refl

module _ (signs place : ℕ) (joined : Bool) (at : place ≡ cond joined (signs + 16) signs) (small : signs < 16) where
  fits : ends_fit (bits_of 4 signs) joined (slice_index_or ROWS place []) ≡ true
  fits = rw at (all_below_at 16 (rows_fit joined) signs (all_fit joined) small)

  pub row_ends : slice_index_or ROWS place [] ≡ cycle_ends (bits_of 4 signs) joined
  row_ends =
      let row : List ℕ = slice_index_or ROWS place [] in
      same_numbers-true row (cycle_ends (bits_of 4 signs) joined) (and_parts (same_numbers row (cycle_ends (bits_of 4 signs) joined)) _ fits).0

  pub row_segments : (i k : ℕ) → i < 4 → k < 4 → (slice_index (slice_index_or ROWS place []) i == k) ≡ has_pair (segments (bits_of 4 signs) joined) i k
  row_segments i k h g =
      let row : List ℕ = slice_index_or ROWS place [] in
      let fit : ℕ → ℕ → Bool = λ i k. same (slice_index row i == k) (has_pair (segments (bits_of 4 signs) joined) i k) in
      let each : all_below 4 (λ i. all_below 4 (fit i)) ≡ true = (and_parts (same_numbers row (cycle_ends (bits_of 4 signs) joined)) _ fits).1 in
      same_true _ _ (all_below_at 4 (fit i) k (all_below_at 4 (λ i. all_below 4 (fit i)) i each h) g)
