-- The table of loops is right: tests over all cases, and what they say of one case.
use Rattle.std.proofs.Common.{◌≡◌, ℕ, zero, suc, ◌+◌, ◌<◌, ◌≤◌, ◌==◌, Bool, true, ◌&&◌, List, [], ◌∷◌, length, get_or, refl, sym, subst, arith}
use Rattle.std.specs.Prelude.{nat_le, nat_lt, slice_index_or, slice_range}
use Rattle.std.specs.List.{enumerate_from, filter, flat_map, list_all}
use Rattle.std.proofs.lemmas.Bool.{and_parts, eqb-true, leb-true, ltb-true}
use Rattle.iso_defs.specs.Cell.{case_loops, loop_triangles}
use Rattle.iso_defs.specs.Scratch.{has_centre}
use Rattle.face_decider.proofs.Rows.{same_numbers, same_numbers-true}
use Rattle.case_table.specs.Cases.{case_at, case_joined, case_signs, cases}
use Rattle.case_table.proofs.Numbering.{length_cases}
use Rattle.cell_loops.specs.Loops.{IsLoop, row_centres, row_loops, row_triangles}
use Rattle.cell_loops.specs.declared.table.TheConstants.{CENTRES, EDGES, FIRST, STARTS, TRIANGLES}

-- bounds on a table
all_at_most : ℕ → List ℕ → Bool
all_at_most bound xs = list_all (λ x. nat_le x bound) xs

at_most_at : (bound : ℕ) (xs : List ℕ) (k : ℕ) → all_at_most bound xs ≡ true → get_or xs k 0 ≤ bound
unfolding all_at_most
at_most_at bound [] k h = omega arith
at_most_at bound (x ∷ xs) zero h = leb-true x bound (and_parts (nat_le x bound) (all_at_most bound xs) h).0
at_most_at bound (x ∷ xs) (suc k) h = at_most_at bound xs k (and_parts (nat_le x bound) (all_at_most bound xs) h).1

pub first_bound : (n : ℕ) → get_or FIRST n 0 ≤ 1026
unfolding all_at_most
first_bound n = at_most_at 1026 FIRST n refl

pub start_bound : (n : ℕ) → get_or STARTS n 0 ≤ 5256
unfolding all_at_most
start_bound n = at_most_at 5256 STARTS n refl

-- a loop of the table
abbrev loop_fits : ℕ → List ℕ → Bool
loop_fits k edges =
    (nat_le (get_or STARTS k 0) (get_or STARTS (k + 1) 0) && same_numbers (slice_range EDGES (get_or STARTS k 0) (get_or STARTS (k + 1) 0)) edges)
    && (nat_le 3 (length edges) && (nat_le (length edges) 12 && list_all (λ e. nat_lt e 12) edges))

-- and those that follow each other
abbrev loops_fit : ℕ → List (List ℕ) → Bool
loops_fit k [] = true
loops_fit k (edges ∷ loops) = loop_fits k edges && loops_fit (k + 1) loops

-- the loops of a case
abbrev case_fits : ℕ → List Bool → List Bool → Bool
case_fits n signs joined =
    let loops : List (List ℕ) = case_loops signs joined in
    (nat_le (length loops) 4 && (get_or FIRST n 0 + length loops == get_or FIRST (n + 1) 0)) && loops_fit (get_or FIRST n 0) loops

-- and their triangles and centres
abbrev counts_fit : ℕ → List Bool → List Bool → Bool
counts_fit n signs joined =
    let loops : List (ℕ × List ℕ) = enumerate_from 0 (case_loops signs joined) in
    let count : ℕ = length (flat_map (λ (l : ℕ × List ℕ). loop_triangles l.1 (12 + l.0)) loops) in
    (get_or TRIANGLES n 0 == count && nat_le count 12) && get_or CENTRES n 0 == length (filter has_centre loops)

-- a test of all cases by number
abbrev all_cases : (ℕ → List Bool → List Bool → Bool) → ℕ → List (List Bool × List Bool) → Bool
all_cases test n [] = true
all_cases test n (c ∷ cs) = test n c.0 c.1 && all_cases test (n + 1) cs

all_fit : all_cases case_fits 0 cases ≡ true
unfolding cases
all_fit = refl

all_counts_fit : all_cases counts_fit 0 cases ≡ true
unfolding cases
all_counts_fit = refl

test_at : (test : ℕ → List Bool → List Bool → Bool) (cs : List (List Bool × List Bool)) (n k : ℕ) → all_cases test n cs ≡ true → k < length cs
    → test (n + k) (slice_index_or cs k ([], [])).0 (slice_index_or cs k ([], [])).1 ≡ true
test_at test [] n k h l = absurd (omega arith)
test_at test (c ∷ cs) n zero h l =
    let same : n + 0 ≡ n = omega arith in
    rw same (and_parts (test n c.0 c.1) (all_cases test (n + 1) cs) h).0
test_at test (c ∷ cs) n (suc k) h l =
    let next : n + suc k ≡ n + 1 + k = omega arith in
    rw next (test_at test cs (n + 1) k (and_parts (test n c.0 c.1) (all_cases test (n + 1) cs) h).1 (omega arith))

case_passes : (test : ℕ → List Bool → List Bool → Bool) → all_cases test 0 cases ≡ true → (n : ℕ) → n < 656 → test n (case_signs n) (case_joined n) ≡ true
unfolding case_at
case_passes test h n small =
    let same : 0 + n ≡ n = omega arith in
    subst (λ k. test k (slice_index_or cases n ([], [])).0 (slice_index_or cases n ([], [])).1 ≡ true) same
    (test_at test cases 0 n h (omega (arith, length_cases)))

-- what the test of a loop says
pub record Stands (k : ℕ) (edges : List ℕ) : Type 0 where
  pub order : get_or STARTS k 0 ≤ get_or STARTS (k + 1) 0
  pub value : slice_range EDGES (get_or STARTS k 0) (get_or STARTS (k + 1) 0) ≡ edges
  pub shape : IsLoop edges

loop_stands : (k : ℕ) (edges : List ℕ) → loop_fits k edges ≡ true → Stands k edges
loop_stands k edges h =
    let parts = and_parts (nat_le (get_or STARTS k 0) (get_or STARTS (k + 1) 0) && same_numbers (slice_range EDGES (get_or STARTS k 0) (get_or STARTS (k + 1) 0)) edges) _ h in
    let place = and_parts (nat_le (get_or STARTS k 0) (get_or STARTS (k + 1) 0)) _ parts.0 in
    let long = and_parts (nat_le 3 (length edges)) _ parts.1 in
    let short = and_parts (nat_le (length edges) 12) _ long.1 in
    record {
      order = leb-true _ _ place.0;
      value = same_numbers-true _ _ place.1;
      shape = record { least = leb-true _ _ long.0; most = leb-true _ _ short.0; low = λ i d l. all_low edges i d short.1 l };
    }
  where
    all_low : (edges : List ℕ) (i d : ℕ) → list_all (λ e. nat_lt e 12) edges ≡ true → i < length edges → get_or edges i d < 12
    all_low [] i d h l = absurd (omega arith)
    all_low (e ∷ es) zero d h l = ltb-true e 12 (and_parts (nat_lt e 12) _ h).0
    all_low (e ∷ es) (suc i) d h l = all_low es i d (and_parts (nat_lt e 12) _ h).1 (omega arith)

stands_at : (k : ℕ) (loops : List (List ℕ)) (turn : ℕ) → loops_fit k loops ≡ true → turn < length loops → Stands (k + turn) (slice_index_or loops turn [])
stands_at k [] turn h l = absurd (omega arith)
stands_at k (edges ∷ loops) zero h l =
    let same : k + 0 ≡ k = omega arith in
    subst (λ n. Stands n edges) (sym same) (loop_stands k edges (and_parts (loop_fits k edges) (loops_fit (k + 1) loops) h).0)
stands_at k (edges ∷ loops) (suc turn) h l =
    let next : k + 1 + turn ≡ k + suc turn = omega arith in
    subst (λ n. Stands n (slice_index_or loops turn [])) next (stands_at (k + 1) loops turn (and_parts (loop_fits k edges) (loops_fit (k + 1) loops) h).1 (omega arith))

-- of one case
pub record IsRow (n : ℕ) : Type 0 where
  pub few : length (row_loops n) ≤ 4
  pub last : get_or FIRST n 0 + length (row_loops n) ≡ get_or FIRST (n + 1) 0
  pub stands : (turn : ℕ) → turn < length (row_loops n) → Stands (get_or FIRST n 0 + turn) (slice_index_or (row_loops n) turn [])

pub row_at : (n : ℕ) → n < 656 → IsRow n
unfolding row_loops
row_at n small =
    let loops : List (List ℕ) = case_loops (case_signs n) (case_joined n) in
    let parts = and_parts (nat_le (length loops) 4 && (get_or FIRST n 0 + length loops == get_or FIRST (n + 1) 0)) (loops_fit (get_or FIRST n 0) loops) (case_passes case_fits all_fit n small) in
    let counts = and_parts (nat_le (length loops) 4) _ parts.0 in
    record { few = leb-true _ _ counts.0; last = eqb-true _ _ counts.1; stands = λ turn l. stands_at (get_or FIRST n 0) loops turn parts.1 l }

-- how many triangles and centres
count_parts : (n : ℕ) → n < 656
    → ((get_or TRIANGLES n 0 == length (row_triangles n) && nat_le (length (row_triangles n)) 12) ≡ true) × ((get_or CENTRES n 0 == length (row_centres n)) ≡ true)
unfolding row_triangles row_centres
count_parts n small =
    and_parts (get_or TRIANGLES n 0 == length (row_triangles n) && nat_le (length (row_triangles n)) 12) (get_or CENTRES n 0 == length (row_centres n))
    (case_passes counts_fit all_counts_fit n small)

pub triangles_at : (n : ℕ) → n < 656 → get_or TRIANGLES n 0 ≡ length (row_triangles n)
triangles_at n small = eqb-true _ _ (and_parts (get_or TRIANGLES n 0 == length (row_triangles n)) (nat_le (length (row_triangles n)) 12) (count_parts n small).0).0

pub few_triangles : (n : ℕ) → n < 656 → length (row_triangles n) ≤ 12
few_triangles n small = leb-true _ _ (and_parts (get_or TRIANGLES n 0 == length (row_triangles n)) (nat_le (length (row_triangles n)) 12) (count_parts n small).0).1

pub centres_at : (n : ℕ) → n < 656 → get_or CENTRES n 0 ≡ length (row_centres n)
centres_at n small = eqb-true _ _ (count_parts n small).1

pub triangle_bound : (n : ℕ) → get_or TRIANGLES n 0 ≤ 12
unfolding all_at_most
triangle_bound n = at_most_at 12 TRIANGLES n refl

pub centre_bound : (n : ℕ) → get_or CENTRES n 0 ≤ 4
unfolding all_at_most
centre_bound n = at_most_at 4 CENTRES n refl
