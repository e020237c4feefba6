-- Each of the 656 rows is right: one test over the table, and what it says of a row.
use Rattle.std.proofs.Common.{◌≡◌, ◌≢◌, ◌∙◌, ℕ, zero, suc, ◌*◌, ◌/◌, ◌%◌, ◌^◌, ◌<◌, ◌==◌, Bool, true, false, ◌&&◌, ◌||◌, List, [], ◌∷◌, length, get_or, refl, sym, inl, inr, arith, lit<, eq-eqb, ne_eqb, ap₂, subst}
use Rattle.std.specs.Prelude.{nat_lt, slice_index_or}
use Rattle.std.specs.List.{list_all}
use Rattle.std.proofs.lemmas.Bool.{and_parts, cases_Bool, eqb-true}
use Rattle.iso_defs.specs.Lists.{has_pair}
use Rattle.iso_defs.specs.Cell.{crosses, next_of, next_pairs}
use Rattle.iso_defs.specs.Bricks.{number_of_bits}
use Rattle.case_laws.proofs.Cases.{all_below}
use Rattle.case_laws.proofs.Tests.{all_below_at}
use Rattle.case_laws.proofs.Wedges.{segment_test, segment_all, previous_of}
use Rattle.case_table.specs.Cases.{case_at, case_joined, case_pairs, case_signs, cases}
use Rattle.case_table.specs.declared.rows.TheConstants.{ROWS}
use Rattle.case_table.proofs.Numbering.{number_passes, under_at}

-- the four bits of an edge
abbrev pub field : ℕ → ℕ → ℕ
field row a = row / 2 ^ (4 * a) % 16

-- where the segment ends that begins at the edge
abbrev edge_fits : List (ℕ × ℕ) → ℕ → ℕ → Bool
edge_fits pairs row a = field row a == next_of pairs a && (nat_lt (field row a) 12 || (field row a == 15))

-- the row has the signs and the ends
abbrev row_fits : ℕ → List Bool → List Bool → Bool
row_fits row signs joined =
    let pairs : List (ℕ × ℕ) = next_pairs signs joined in
    row / 2 ^ 48 == number_of_bits signs && all_below 12 (edge_fits pairs row)

abbrev rows_fit : List ℕ → List (List Bool × List Bool) → Bool
rows_fit [] [] = true
rows_fit [] (c ∷ cs) = false
rows_fit (row ∷ rows) [] = false
rows_fit (row ∷ rows) (c ∷ cs) = row_fits row c.0 c.1 && rows_fit rows cs

all_fit : rows_fit ROWS cases ≡ true
unfolding cases
all_fit = refl

fits_at : (rows : List ℕ) (cs : List (List Bool × List Bool)) (n : ℕ) → rows_fit rows cs ≡ true → n < length rows
    → row_fits (get_or rows n 0) (slice_index_or cs n ([], [])).0 (slice_index_or cs n ([], [])).1 ≡ true
fits_at [] cs n h l = absurd (omega arith)
fits_at (row ∷ rows) [] n h l = cc
fits_at (row ∷ rows) (c ∷ cs) zero h l = (and_parts (row_fits row c.0 c.1) (rows_fit rows cs) h).0
fits_at (row ∷ rows) (c ∷ cs) (suc n) h l = fits_at rows cs n (and_parts (row_fits row c.0 c.1) (rows_fit rows cs) h).1 (omega arith)

row_at : (n : ℕ) → n < 656 → row_fits (get_or ROWS n 0) (case_signs n) (case_joined n) ≡ true
unfolding case_at
row_at n small = fits_at ROWS cases n all_fit small

pub signs_at : (n : ℕ) → n < 656 → get_or ROWS n 0 / 2 ^ 48 ≡ number_of_bits (case_signs n)
signs_at n small =
    eqb-true _ _ (and_parts (get_or ROWS n 0 / 2 ^ 48 == number_of_bits (case_signs n)) (all_below 12 (edge_fits (case_pairs n) (get_or ROWS n 0))) (row_at n small)).0

edge_at : (n a : ℕ) → n < 656 → a < 12 → edge_fits (case_pairs n) (get_or ROWS n 0) a ≡ true
edge_at n a small edge =
    let fits : ℕ → Bool = edge_fits (case_pairs n) (get_or ROWS n 0) in
    all_below_at 12 fits a (and_parts (get_or ROWS n 0 / 2 ^ 48 == number_of_bits (case_signs n)) (all_below 12 fits) (row_at n small)).1 edge

pub end_at : (n a : ℕ) → n < 656 → a < 12 → field (get_or ROWS n 0) a ≡ next_of (case_pairs n) a
end_at n a small edge = eqb-true _ _ (and_parts (field (get_or ROWS n 0) a == next_of (case_pairs n) a) (nat_lt (field (get_or ROWS n 0) a) 12 || (field (get_or ROWS n 0) a == 15)) (edge_at n a small edge)).0

pub none_at : (n a : ℕ) → n < 656 → a < 12 → (nat_lt (field (get_or ROWS n 0) a) 12 || (field (get_or ROWS n 0) a == 15)) ≡ true
none_at n a small edge = (and_parts (field (get_or ROWS n 0) a == next_of (case_pairs n) a) (nat_lt (field (get_or ROWS n 0) a) 12 || (field (get_or ROWS n 0) a == 15)) (edge_at n a small edge)).1

pub rows_bound : (n : ℕ) → get_or ROWS n 0 < 2 ^ 56
rows_bound n = under_at (2 ^ 56) ROWS n (lit< tt) refl

-- an end is that of a pair
pair_of_next : (ps : List (ℕ × ℕ)) (a b : ℕ) → b ≢ 15 → next_of ps a ≡ b → has_pair ps a b ≡ true
pair_of_next [] a b ne h = absurd (ne (sym h))
pair_of_next (p ∷ ps) a b ne h = elim (cases_Bool (p.0 == a)) [
  | inl e ↦
      let is : p.1 ≡ b = rw e at h in
      rw (e, eq-eqb p.1 b is) refl
  | inr e ↦
      let rest : next_of ps a ≡ b = rw e at h in
      rw e (pair_of_next ps a b ne rest)
]

-- a fact of all pairs is one of each
of_pairs : (test : ℕ × ℕ → Bool) (ps : List (ℕ × ℕ)) (a b : ℕ) → list_all test ps ≡ true → has_pair ps a b ≡ true → test (a, b) ≡ true
of_pairs test [] a b h i = cc
of_pairs test (p ∷ ps) a b h i =
    let parts = and_parts (test p) (list_all test ps) h in
    elim (cases_Bool (p.0 == a && p.1 == b)) [
      | inl e ↦
          let ends = and_parts (p.0 == a) (p.1 == b) e in
          let is : p ≡ (a, b) = ap₂ (λ x y. (x, y)) (eqb-true _ _ ends.0) (eqb-true _ _ ends.1) in
          subst (λ q. test q ≡ true) is parts.0
      | inr e ↦
          let rest : has_pair ps a b ≡ true = rw e at i in
          of_pairs test ps a b parts.1 rest
    ]

-- no two pairs begin alike, so the end is that of each pair that begins there
pair_next : (n a b : ℕ) → n < 656 → has_pair (case_pairs n) a b ≡ true → next_of (case_pairs n) a ≡ b
pair_next n a b small h =
    let pairs : List (ℕ × ℕ) = case_pairs n in
    let signs : List Bool = case_signs n in
    let tests : ℕ × ℕ → Bool = λ p. crosses signs p.0 && (crosses signs p.1 && (next_of pairs p.0 == p.1 && previous_of pairs p.1 == p.0)) in
    let one : tests (a, b) ≡ true = of_pairs tests pairs a b (number_passes segment_test segment_all n small) h in
    let late = and_parts (crosses signs b) _ (and_parts (crosses signs a) _ one).1 in
    eqb-true (next_of pairs a) b (and_parts (next_of pairs a == b) (previous_of pairs b == a) late.1).0

pub next_at : (n a b : ℕ) → n < 656 → a < 12 → b < 12 → (field (get_or ROWS n 0) a == b) ≡ has_pair (case_pairs n) a b
next_at n a b small edge other =
    let pairs : List (ℕ × ℕ) = case_pairs n in
    elim (cases_Bool (has_pair pairs a b)) [
      | inl e ↦ eq-eqb (field (get_or ROWS n 0) a) b (end_at n a small edge ∙ pair_next n a b small e) ∙ sym e
      | inr e ↦
          let none : b ≢ 15 = omega arith in
          let ne : field (get_or ROWS n 0) a ≢ b = λ is. true_ne_false (sym (pair_of_next pairs a b none (sym (end_at n a small edge) ∙ is)) ∙ e) in
          ne_eqb (field (get_or ROWS n 0) a) b ne ∙ sym e
    ]
  where
    true_ne_false : true ≢ false
    true_ne_false h = cc
