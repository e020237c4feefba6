-- The table of triangles is right: a test of all cases, and what it says of one.
use Rattle.std.proofs.Common.{◌≡◌, ℕ, zero, suc, ◌+◌, ◌-◌, ◌*◌, ◌<◌, ◌≤◌, ◌∙◌, Bool, true, false, ◌&&◌, List, [], ◌∷◌, ◌++◌, All, take, drop, length, get_or, refl, sym, subst, ap, ap₂, arith}
use Rattle.std.specs.Prelude.{nat_le, nat_lt, slice_index_or, slice_range}
use Rattle.std.specs.List.{concat, list_all, sum_by}
use Rattle.std.proofs.Math.Seq.{take-add}
use Rattle.std.proofs.lemmas.List.{length-append, length-take-le}
use Rattle.std.proofs.lemmas.List.Elements.{All-cons, All-drop, All-nil, All-take}
use Rattle.std.proofs.lemmas.Bool.{and_parts, leb-true, ltb-true}
use Rattle.iso_defs.specs.Cell.{case_loops}
use Rattle.iso_defs.specs.Lists.{below}
use Rattle.face_decider.proofs.Rows.{same_numbers, same_numbers-true}
use Rattle.case_table.specs.Cases.{case_at, case_joined, case_signs, cases}
use Rattle.case_table.proofs.Numbering.{length_cases}
use Rattle.cell_loops.specs.Loops.{row_loops}
use Rattle.flat_mesh.specs.Faces.{cell_faces, centres_of, loop_faces}
use Rattle.case_faces.specs.Faces.{all_corners, case_corners, corners_to, row_faces}
use Rattle.case_faces.specs.declared.table.TheConstants.{CORNERS, STARTS}
use Rattle.case_faces.proofs.Corners.{corners_at, flat_more}

-- lists of the same lists
abbrev pub same_faces : List (List ℕ) → List (List ℕ) → Bool
same_faces [] [] = true
same_faces [] (y ∷ ys) = false
same_faces (x ∷ xs) [] = false
same_faces (x ∷ xs) (y ∷ ys) = same_numbers x y && same_faces xs ys

pub same_faces-true : (xs ys : List (List ℕ)) → same_faces xs ys ≡ true → xs ≡ ys
same_faces-true [] [] h = refl
same_faces-true [] (y ∷ ys) h = cc
same_faces-true (x ∷ xs) [] h = cc
same_faces-true (x ∷ xs) (y ∷ ys) h =
    let parts = and_parts (same_numbers x y) (same_faces xs ys) h in
    ap₂ (λ z zs. z ∷ zs) (same_numbers-true x y parts.0) (same_faces-true xs ys parts.1)

-- the corners of the triangles of a case in the table
abbrev pub case_list : ℕ → List ℕ
case_list n = slice_range CORNERS (3 * get_or STARTS n 0) (3 * get_or STARTS (n + 1) 0)

-- they are those of the triangles of its loops
abbrev case_fits : ℕ → List Bool → List Bool → Bool
case_fits n signs joined =
    let faces : List (List ℕ) = cell_faces (below 12) (case_loops signs joined) 12 in
    (nat_le (get_or STARTS n 0) (get_or STARTS (n + 1) 0) && same_numbers (case_list n) (concat faces))
    && (nat_le (get_or STARTS (n + 1) 0) (get_or STARTS n 0 + 12) && nat_le (sum_by centres_of (case_loops signs joined)) 2)

-- a test of all cases by number
abbrev pub all_cases : (ℕ → List Bool → List Bool → Bool) → ℕ → List (List Bool × List Bool) → Bool
all_cases test n [] = true
all_cases test n (c ∷ cs) = test n c.0 c.1 && all_cases test (n + 1) cs

test_at : (test : ℕ → List Bool → List Bool → Bool) (cs : List (List Bool × List Bool)) (n k : ℕ) → all_cases test n cs ≡ true → k < length cs
    → test (n + k) (slice_index_or cs k ([], [])).0 (slice_index_or cs k ([], [])).1 ≡ true
test_at test [] n k h l = absurd (omega arith)
test_at test (c ∷ cs) n zero h l =
    let same : n + 0 ≡ n = omega arith in
    rw same (and_parts (test n c.0 c.1) (all_cases test (n + 1) cs) h).0
test_at test (c ∷ cs) n (suc k) h l =
    let next : n + suc k ≡ n + 1 + k = omega arith in
    rw next (test_at test cs (n + 1) k (and_parts (test n c.0 c.1) (all_cases test (n + 1) cs) h).1 (omega arith))

pub case_passes : (test : ℕ → List Bool → List Bool → Bool) → all_cases test 0 cases ≡ true → (n : ℕ) → n < 656 → test n (case_signs n) (case_joined n) ≡ true
unfolding case_at
case_passes test h n small =
    let same : 0 + n ≡ n = omega arith in
    subst (λ k. test k (slice_index_or cases n ([], [])).0 (slice_index_or cases n ([], [])).1 ≡ true) same
    (test_at test cases 0 n h (omega (arith, length_cases)))

all_fit : all_cases case_fits 0 cases ≡ true
unfolding cases loop_faces
all_fit = refl

-- bounds on where they begin
unfoldable pub all_at_most : ℕ → List ℕ → Bool
all_at_most bound xs = list_all (λ x. nat_le x bound) xs

pub at_most_at : (bound : ℕ) (xs : List ℕ) (k : ℕ) → all_at_most bound xs ≡ true → get_or xs k 0 ≤ bound
unfolding all_at_most
at_most_at bound [] k h = omega arith
at_most_at bound (x ∷ xs) zero h = leb-true x bound (and_parts (nat_le x bound) (all_at_most bound xs) h).0
at_most_at bound (x ∷ xs) (suc k) h = at_most_at bound xs k (and_parts (nat_le x bound) (all_at_most bound xs) h).1

pub start_bound : (n : ℕ) → get_or STARTS n 0 ≤ 4424
unfolding all_at_most
start_bound n = at_most_at 4424 STARTS n refl

-- what the test says of one case
pub record IsRow (n : ℕ) : Type 0 where
  pub order : get_or STARTS n 0 ≤ get_or STARTS (n + 1) 0
  pub value : case_list n ≡ case_corners n
  pub few : get_or STARTS (n + 1) 0 ≤ get_or STARTS n 0 + 12
  pub centres : sum_by centres_of (row_loops n) ≤ 2

pub row_at : (n : ℕ) → n < 656 → IsRow n
unfolding case_corners row_faces row_loops
row_at n small =
    let loops : List (List ℕ) = case_loops (case_signs n) (case_joined n) in
    let from : ℕ = get_or STARTS n 0 in
    let to : ℕ = get_or STARTS (n + 1) 0 in
    let parts = and_parts (nat_le from to && same_numbers (case_list n) (concat (cell_faces (below 12) loops 12)))
    (nat_le to (from + 12) && nat_le (sum_by centres_of loops) 2) (case_passes case_fits all_fit n small) in
    let place = and_parts (nat_le from to) (same_numbers (case_list n) (concat (cell_faces (below 12) loops 12))) parts.0 in
    let shape = and_parts (nat_le to (from + 12)) (nat_le (sum_by centres_of loops) 2) parts.1 in
    record { order = leb-true _ _ place.0; value = same_numbers-true _ _ place.1; few = leb-true _ _ shape.0; centres = leb-true _ _ shape.1 }

-- the corners of the table are low
low_corners : List ℕ → Bool
low_corners cs = list_all (λ c. nat_lt c 14) cs

each_low : (cs : List ℕ) → low_corners cs ≡ true → All (λ c. c < 14) cs
unfolding low_corners
each_low [] h = All-nil _
each_low (c ∷ cs) h = let parts = and_parts (nat_lt c 14) (low_corners cs) h in All-cons (λ c. c < 14) c cs (ltb-true c 14 parts.0) (each_low cs parts.1)

pub all_low : All (λ c. c < 14) CORNERS
unfolding low_corners
all_low = each_low CORNERS refl

-- the corners of the cases before one are those before its own in the table
pub corners_first : (n : ℕ) → n ≤ 656 → take (3 * get_or STARTS n 0) CORNERS ≡ corners_to n
unfolding corners_to
corners_first zero low = refl
corners_first (suc n) low =
    let row = row_at n (omega arith) in
    let next : n + 1 ≡ suc n = omega arith in
    take_more CORNERS (3 * get_or STARTS n 0) (3 * get_or STARTS (suc n) 0) (omega (arith, row.order, ap (λ n. get_or STARTS n 0) next))
    ∙ (ap₂ (λ (a b : List ℕ). a ++ b) (corners_first n (omega arith)) (ap (λ k. slice_range CORNERS (3 * get_or STARTS n 0) (3 * get_or STARTS k 0)) (sym next) ∙ row.value)
    ∙ (sym (flat_more case_corners n) ∙ ap corners_to next))
  where
    take_more : (xs : List ℕ) (a b : ℕ) → a ≤ b → take b xs ≡ take a xs ++ slice_range xs a b
    take_more xs a b le = let same : a + (b - a) ≡ b = omega arith in ap (λ n. take n xs) (sym same) ∙ take-add a (b - a) xs

pub all_are : CORNERS ≡ all_corners
all_are = corners_first 656 (omega arith)

-- how many there are
pub before_are : (n : ℕ) → n ≤ 656 → length (corners_to n) ≡ 3 * get_or STARTS n 0
before_are n low =
    sym (ap length (corners_first n low)) ∙ length-take-le (3 * get_or STARTS n 0) CORNERS (omega (arith, start_bound n, long))
  where
    long : length CORNERS ≡ 13272
    long = refl

pub count_is : (n : ℕ) → n < 656 → length (case_corners n) ≡ 3 * (get_or STARTS (n + 1) 0 - get_or STARTS n 0)
unfolding corners_to
count_is n small =
    let row = row_at n small in
    let both = ap length (flat_more case_corners n) ∙ length-append (corners_to n) (case_corners n) in
    omega (arith, row.order, both, before_are n (omega arith), before_are (n + 1) (omega arith))

pub all_count : length all_corners ≡ 13272
all_count = before_are 656 (omega arith)

-- the corners of a case are low
pub corners_low : (n : ℕ) → n < 656 → All (λ c. c < 14) (case_corners n)
corners_low n small =
    subst (All (λ c. c < 14)) (corners_at n small)
    (All-take (λ c. c < 14) (length (case_corners n)) (drop (length (corners_to n)) all_corners)
    (All-drop (λ c. c < 14) (length (corners_to n)) all_corners (subst (All (λ c. c < 14)) all_are all_low)))
