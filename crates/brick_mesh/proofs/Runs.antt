-- Runs of entries.
use Rattle.std.proofs.Common.{◌≡◌, ◌∙◌, ℕ, zero, suc, ◌+◌, ◌-◌, ◌*◌, ◌/◌, ◌%◌, ◌<◌, ◌≤◌, ◌++◌, Bool, true, false, ◌&&◌, cond, [], ◌∷◌, map, length, refl, sym, ap, ap₂, subst, arith, zero-add}
use Rattle.std.specs.List.{filter, range_with_len}
use Rattle.std.proofs.lemmas.Bool.{and_from}
use Rattle.std.proofs.lemmas.List.{map-append}
use Rattle.std.proofs.lemmas.List.Elements.{filter-append}
use Rattle.std.proofs.lemmas.List.FromFn.{length-map-range_with_len, map-range_with_len_more}
use Rattle.iso_defs.proofs.Ranges.{range_append}
use Rattle.iso_defs.specs.Lists.{below}
use Rattle.iso_defs.specs.Bricks.{bits_of, brick_cell, case_number, cell_case, cells_along, entries, has_cell, is_active_cell, is_mixed, row_cases}
use Rattle.iso_defs.specs.Cell.{cell_signs, cell_values}
use Rattle.case_table.specs.Cases.{ambiguous_flags}
use Rattle.case_table.proofs.Values.{none_joined}
use Rattle.brick_mesh.specs.Block.{BrickAt, IsCell, heights, point_in}
use Rattle.brick_store.specs.Holding.{points_along}
use Rattle.brick_mesh.specs.Entries.{IsPlain, case_of, entries_from, entry_of, first_cases}

-- whether a cell of the brick has an entry
abbrev pub is_active_in : BrickAt → ℕ → Bool
is_active_in b = is_active_cell b.grid (heights b) b.brick

-- what passes a test of a run of numbers
one_kept : (f : ℕ → ℕ) (p : ℕ → Bool) (k : ℕ) → p k ≡ true → map f (filter p (range_with_len k 1)) ≡ f k ∷ []
one_kept f p k h = ap (λ b. map f (cond b (k ∷ []) [])) h

none_kept : (f : ℕ → ℕ) (p : ℕ → Bool) (first count : ℕ) → ((k : ℕ) → first ≤ k → k < first + count → p k ≡ false) → map f (filter p (range_with_len first count)) ≡ []
none_kept f p first zero h = refl
none_kept f p first (suc count) h =
    ap (λ b. map f (cond b (first ∷ filter p (range_with_len (first + 1) count)) (filter p (range_with_len (first + 1) count)))) (h first (omega arith) (omega arith))
    ∙ none_kept f p (first + 1) count (λ k low high. h k (omega arith) (omega arith))

few_kept : (f : ℕ → ℕ) (p : ℕ → Bool) (first count : ℕ) → length (map f (filter p (range_with_len first count))) ≤ count
few_kept f p first zero = omega arith
few_kept f p first (suc count) = by_test (p first) (few_kept f p (first + 1) count)
  where
    by_test : (b : Bool) → length (map f (filter p (range_with_len (first + 1) count))) ≤ count
        → length (map f (cond b (first ∷ filter p (range_with_len (first + 1) count)) (filter p (range_with_len (first + 1) count)))) ≤ suc count
    by_test true few = omega arith
    by_test false few = omega arith

pub entries_all : (b : BrickAt) → entries_from b 0 512 ≡ entries b.grid (heights b) b.brick
unfolding entries_from case_of
entries_all b = refl

pub entries_join : (b : BrickAt) (n m : ℕ) → entries_from b 0 (n + m) ≡ entries_from b 0 n ++ entries_from b n m
unfolding entries_from
entries_join b n m =
    ap (λ cells. map (entry_of b) (filter (is_active_in b) cells)) (range_append 0 n m ∙ ap (λ k. range_with_len 0 n ++ range_with_len k m) (zero-add n))
    ∙ ap (map (entry_of b)) (filter-append (is_active_in b) (range_with_len 0 n) (range_with_len n m))
    ∙ map-append (entry_of b) (filter (is_active_in b) (range_with_len 0 n)) (filter (is_active_in b) (range_with_len n m))

pub entries_none : (b : BrickAt) (first count : ℕ) → ((k : ℕ) → first ≤ k → k < first + count → is_active_in b k ≡ false) → entries_from b first count ≡ []
unfolding entries_from
entries_none b first count h = none_kept (entry_of b) (is_active_in b) first count h

pub entries_few : (b : BrickAt) (first count : ℕ) → length (entries_from b first count) ≤ count
unfolding entries_from
entries_few b first count = few_kept (entry_of b) (is_active_in b) first count

-- a cell that is there has an entry where it has a crossing edge
pub entry_one : (b : BrickAt) (cell : ℕ) → IsCell b cell → is_mixed (cell_signs b.grid (heights b) (brick_cell b.grid b.brick cell)) ≡ true
    → entries_from b cell 1 ≡ entry_of b cell ∷ []
unfolding entries_from
entry_one b cell is h = one_kept (entry_of b) (is_active_in b) cell (and_from _ _ is.there h)

pub entry_not : (b : BrickAt) (cell : ℕ) → is_mixed (cell_signs b.grid (heights b) (brick_cell b.grid b.brick cell)) ≡ false → entries_from b cell 1 ≡ []
entry_not b cell h =
    entries_none b cell 1 (λ k low high.
    (let same : k ≡ cell = omega arith in
    subst (λ k. is_active_in b k ≡ false) (sym same) (and_false (has_cell b.grid b.brick cell) _ h)))
  where
    and_false : (p q : Bool) → q ≡ false → (p && q) ≡ false
    and_false true q h = h
    and_false false q h = refl

-- the cases of the first cells of a row
pub first_none : (b : BrickAt) (y z : ℕ) → first_cases b y z 0 ≡ []
unfolding first_cases
first_none b y z = refl

pub first_long : (b : BrickAt) (y z count : ℕ) → length (first_cases b y z count) ≡ count
unfolding first_cases
first_long b y z count = length-map-range_with_len (λ x. case_of b.grid (heights b) (point_in b x y z)) 0 count

pub first_more : (b : BrickAt) (y z x cell : ℕ) → x < 8 → y < 8 → cell ≡ x + 8 * (y + 8 * z)
    → first_cases b y z (x + 1) ≡ first_cases b y z x ++ case_of b.grid (heights b) (brick_cell b.grid b.brick cell) ∷ []
unfolding first_cases
first_more b y z x cell hx hy e =
    let case_at : ℕ → ℕ = λ x. case_of b.grid (heights b) (point_in b x y z) in
    let along_x : x ≡ cell % 8 = omega arith in
    let along_y : y ≡ cell / 8 % 8 = omega arith in
    let along_z : z ≡ cell / 64 = omega arith in
    let here : point_in b x y z ≡ brick_cell b.grid b.brick cell
    = ap (λ i. point_in b i y z) along_x ∙ ap₂ (λ j k. point_in b (cell % 8) j k) along_y along_z in
    map-range_with_len_more case_at 0 x x (zero-add x) ∙ ap (λ q. first_cases b y z x ++ case_of b.grid (heights b) q ∷ []) here

first_all : (b : BrickAt) (y z count : ℕ) → count ≡ points_along b.grid b.brick 0 - 1 → first_cases b y z count ≡ row_cases b.grid (heights b) b.brick y z
unfolding first_cases case_of
first_all b y z count e =
    let all : count ≡ cells_along b.grid b.brick = omega arith in
    ap (λ n. map (λ x. cell_case b.grid (heights b) (point_in b x y z)) (below n)) all

pub first_of_row : (b : BrickAt) (y z row count : ℕ) → row ≡ y + 8 * z → y < 8 → count ≡ points_along b.grid b.brick 0 - 1
    → first_cases b (row % 8) (row / 8) count ≡ row_cases b.grid (heights b) b.brick y z
first_of_row b y z row count at y_low e =
    let along_y : row % 8 ≡ y = omega arith in
    let along_z : row / 8 ≡ z = omega arith in
    ap₂ (λ j k. first_cases b j k count) along_y along_z ∙ first_all b y z count e

-- the case of a cell without an ambiguous face
pub plain_case : (b : BrickAt) (cell signs : ℕ) → IsPlain signs → bits_of 8 signs ≡ cell_signs b.grid (heights b) (brick_cell b.grid b.brick cell)
    → case_number (bits_of 8 signs) (bits_of 6 0) ≡ case_of b.grid (heights b) (brick_cell b.grid b.brick cell)
unfolding case_of
plain_case b cell signs plain is =
    let values = cell_values b.grid (heights b) (brick_cell b.grid b.brick cell) in
    ap₂ case_number is (sym (none_joined values (sym (ap ambiguous_flags is) ∙ plain)))
