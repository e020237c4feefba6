-- The entries of a run of cells, and the case of a cell by them.
use Rattle.std.proofs.Common.{◌≡◌, ◌∙◌, ℕ, zero, suc, ◌+◌, ◌/◌, ◌%◌, ◌<◌, ◌≤◌, Bool, true, false, cond, List, [], ◌∷◌, map, refl, sym, ap, subst, arith, eqb, ne_eqb, inl, inr}
use Rattle.std.proofs.lemmas.Bool.{cases_lt, eq-eqb}
use Rattle.std.specs.List.{filter, range_with_len}
use Rattle.iso_defs.specs.Bricks.{brick_cell, entries}
use Rattle.brick_mesh.specs.Block.{BrickAt, heights}
use Rattle.brick_mesh.specs.Entries.{case_of, entries_from, entry_of}
use Rattle.brick_mesh.proofs.Runs.{entries_all, is_active_in}
use Rattle.brick_rows.proofs.CellCases.{case_is}
use Rattle.cached_mesh.specs.Kept.{last_case}

module _ (b : BrickAt) where
  -- the case of a cell of the brick
  abbrev pub case_at : ℕ → ℕ
  case_at cell = case_of b.grid (heights b) (brick_cell b.grid b.brick cell)

  pub small : (cell : ℕ) → case_at cell < 656
  unfolding case_of
  small cell = (case_is (record { grid = b.grid; samples = b.samples; level = b.level }) (brick_cell b.grid b.brick cell)).small

  -- one cell before the others
  pub step : (cell n : ℕ) → entries_from b cell (suc n) ≡ cond (is_active_in b cell) (entry_of b cell ∷ entries_from b (cell + 1) n) (entries_from b (cell + 1) n)
  unfolding entries_from
  step cell n = by_test (is_active_in b cell)
    where
      by_test : (t : Bool)
          → map (entry_of b) (cond t (cell ∷ filter (is_active_in b) (range_with_len (cell + 1) n)) (filter (is_active_in b) (range_with_len (cell + 1) n)))
          ≡ cond t (entry_of b cell ∷ map (entry_of b) (filter (is_active_in b) (range_with_len (cell + 1) n))) (map (entry_of b) (filter (is_active_in b) (range_with_len (cell + 1) n)))
      by_test true = refl
      by_test false = refl

  pub none : (cell : ℕ) → entries_from b cell 0 ≡ []
  unfolding entries_from
  none cell = refl

  -- entries of later cells are of none before them
  later : (cell first n other : ℕ) → cell < first → last_case other (entries_from b first n) cell ≡ other
  later cell first zero other low = ap (λ l. last_case other l cell) (none first)
  later cell first (suc n) other low =
      ap (λ l. last_case other l cell) (step first n) ∙ by_test (is_active_in b first) (later cell (first + 1) n other (omega arith))
    where
      apart : eqb (entry_of b first / 1024) cell ≡ false
      apart = ne_eqb _ _ (omega (arith, small first))

      by_test : (t : Bool) → last_case other (entries_from b (first + 1) n) cell ≡ other
          → last_case other (cond t (entry_of b first ∷ entries_from b (first + 1) n) (entries_from b (first + 1) n)) cell ≡ other
      by_test true e = ap (λ t. last_case (cond t (entry_of b first % 1024) other) (entries_from b (first + 1) n) cell) apart ∙ e
      by_test false e = e

  -- the case of the first cell of a run
  first_case : (cell n other : ℕ) → last_case other (entries_from b cell (suc n)) cell ≡ cond (is_active_in b cell) (case_at cell) other
  first_case cell n other = ap (λ l. last_case other l cell) (step cell n) ∙ by_test (is_active_in b cell)
    where
      same : eqb (entry_of b cell / 1024) cell ≡ true
      same = eq-eqb _ _ (omega (arith, small cell))

      rest : entry_of b cell % 1024 ≡ case_at cell
      rest = omega (arith, small cell)

      by_test : (t : Bool) → last_case other (cond t (entry_of b cell ∷ entries_from b (cell + 1) n) (entries_from b (cell + 1) n)) cell ≡ cond t (case_at cell) other
      by_test true =
          ap (λ t. last_case (cond t (entry_of b cell % 1024) other) (entries_from b (cell + 1) n) cell) same
          ∙ (later cell (cell + 1) n (entry_of b cell % 1024) (omega arith) ∙ rest)
      by_test false = later cell (cell + 1) n other (omega arith)

  -- that of any cell of it
  case_among : (cell first n other : ℕ) → first ≤ cell → cell < first + n → last_case other (entries_from b first n) cell ≡ cond (is_active_in b cell) (case_at cell) other
  case_among cell first zero other from low = absurd (omega arith)
  case_among cell first (suc n) other from low = elim (cases_lt first cell) [
    | inl less ↦ ap (λ l. last_case other l cell) (step first n) ∙ by_test less (is_active_in b first) (case_among cell (first + 1) n other (omega arith) (omega arith))
    | inr here ↦ (
        let e : cell ≡ first = omega arith in
        subst (λ k. last_case other (entries_from b k (suc n)) cell ≡ cond (is_active_in b cell) (case_at cell) other) e (first_case cell n other))
  ]
    where
      by_test : first < cell → (t : Bool) → last_case other (entries_from b (first + 1) n) cell ≡ cond (is_active_in b cell) (case_at cell) other
          → last_case other (cond t (entry_of b first ∷ entries_from b (first + 1) n) (entries_from b (first + 1) n)) cell ≡ cond (is_active_in b cell) (case_at cell) other
      by_test less true e =
          ap (λ t. last_case (cond t (entry_of b first % 1024) other) (entries_from b (first + 1) n) cell) (ne_eqb (entry_of b first / 1024) cell (omega (arith, small first))) ∙ e
      by_test less false e = e

  -- and of any cell of the brick
  pub case_of_cell : (cell other : ℕ) (all : List ℕ) → cell < 512 → all ≡ entries b.grid (heights b) b.brick → last_case other all cell ≡ cond (is_active_in b cell) (case_at cell) other
  case_of_cell cell other all low is = ap (λ l. last_case other l cell) (is ∙ sym (entries_all b)) ∙ case_among cell 0 512 other (omega arith) (omega arith)
