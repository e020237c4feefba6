-- The active cells of a row, in order, and the cells between them.
use Rattle.std.proofs.Math.ListN.{get_or-eq_default}
use Rattle.std.proofs.Common.{◌≡◌, ℕ, zero, suc, ◌+◌, ◌-◌, ◌<◌, ◌≤◌, Bool, true, false, not, List, [], length, get_or, take, refl, sym, ◌∙◌, ap, subst, arith, eqb, inl, inr}
use Rattle.std.proofs.lemmas.Bool.{cases_lt, eqb-true}
use Rattle.std.proofs.lemmas.List.{get_or-map, get_or-take, get_or_default, length-take-le}
use Rattle.flat_mesh.specs.Faces.{loops_at}
use Rattle.flat_mesh.specs.Lattice.{Leveled}
use Rattle.flat_mesh.specs.Rows.{row_start}
use Rattle.row_bits.specs.Active.{active_among}
use Rattle.row_bits.proofs.ActiveLists.{active_few, begins, between, inside}
use Rattle.mesh_rows.specs.Rows.{IsCaseOf}
use Rattle.mesh_walk.specs.Cells.{AreCells}
use Rattle.mesh_walk.specs.Numbers.{AreQuiet}
use Rattle.mesh_walk.specs.declared.cells.RowCells.{RowCells}
use Rattle.mesh_walk.proofs.CellRuns.{case_at, last_point}
use Rattle.mesh_walk.proofs.EmptyCase.{no_loops}

-- the cells of a row
module _ (v : Leveled) (cells : RowCells) (are : AreCells v cells) where
  -- the cases of all its cells
  abbrev every : List ℕ
  every = are.cells_are.all

  abbrev other : ℕ → Bool
  other x = not (eqb (get_or every x 0) 0)

  abbrev listed : List ℕ
  listed = active_among every 0 (v.grid.nx - 1)

  abbrev start : ℕ
  start = row_start v.grid cells.y cells.z

  taken : length (take cells.count cells.places) ≡ cells.count
  taken = length-take-le cells.count cells.places are.room

  count_is : cells.count ≡ length listed
  count_is = sym taken ∙ ap length are.cells_are.places_are

  pub place_low : (k : ℕ) → k < cells.count → k + 1 < v.grid.nx
  place_low k low = omega (arith, low, count_is, active_few every 0 (v.grid.nx - 1))

  pub few_cells : cells.count ≤ v.grid.nx
  few_cells = omega (arith, count_is, active_few every 0 (v.grid.nx - 1))

  -- where the run of cells without loops begins that ends with the cell listed at a place
  abbrev pub gap : ℕ → ℕ
  gap k = begins 0 cells.places k

  active_at : (k : ℕ) → k < cells.count → get_or cells.places k 0 ≡ get_or listed k 0
  active_at k low = sym (get_or-take cells.count cells.places k 0 low) ∙ ap (λ l. get_or l k 0) are.cells_are.places_are

  gap_is : (k : ℕ) → k ≤ cells.count → gap k ≡ begins 0 listed k
  gap_is zero low = refl
  gap_is (suc k) low = ap (λ n. n + 1) (active_at k (omega (arith, low)))

  pub gap_next : (k : ℕ) → k < cells.count → gap (k + 1) ≡ get_or cells.places k 0 + 1
  gap_next k low =
      let e : k + 1 ≡ suc k = omega arith in
      ap gap e

  pub gap_before : (k : ℕ) → k < cells.count → gap k ≤ get_or cells.places k 0
  unfolding active_among
  gap_before k low = let r = inside other 0 (v.grid.nx - 1) (v.grid.nx - 1) k (omega arith) (omega (arith, low, count_is)) in omega (arith, r.0, active_at k low, gap_is k (omega (arith, low)))

  pub cell_low : (k : ℕ) → k < cells.count → get_or cells.places k 0 + 1 < v.grid.nx
  unfolding active_among
  cell_low k low = let r = inside other 0 (v.grid.nx - 1) (v.grid.nx - 1) k (omega arith) (omega (arith, low, count_is)) in omega (arith, r.1, active_at k low)

  -- the case of the cell listed at a place
  pub case_of : (k : ℕ) → k < cells.count → IsCaseOf v (start + get_or cells.places k 0) (get_or cells.cases k 0)
  case_of k low =
      let x : ℕ = get_or cells.places k 0 in
      let here : get_or (take cells.count cells.places) k 0 ≡ x = get_or-take cells.count cells.places k 0 low in
      let case : get_or cells.cases k 0 ≡ get_or every x 0
      = sym (get_or-take cells.count cells.cases k 0 low) ∙ (ap (λ l. get_or l k 0) are.cells_are.cases_are
      ∙ (get_or-map (λ x. get_or every x 0) (take cells.count cells.places) k 0 0 (omega (arith, taken, low)) ∙ ap (λ x. get_or every x 0) here)) in
      subst (λ n. IsCaseOf v (start + x) n) (sym case) (case_at v cells are x (cell_low k low))

  first_case : (k x : ℕ) → k ≤ length listed → begins 0 listed k ≤ x → x < get_or listed k (v.grid.nx - 1) → get_or every x 0 ≡ 0
  unfolding active_among
  first_case k x low least most = zero_by (eqb (get_or every x 0) 0) refl (between other 0 (v.grid.nx - 1) (v.grid.nx - 1) k x (omega arith) low least most)
    where
      zero_by : (b : Bool) → eqb (get_or every x 0) 0 ≡ b → not b ≡ false → get_or every x 0 ≡ 0
      zero_by true e h = eqb-true (get_or every x 0) 0 e
      zero_by false e h = absurd (cc)

  no_loops_at : (q k : ℕ) → start ≤ q → k ≤ length listed → begins 0 listed k ≤ q - start → q - start < get_or listed k (v.grid.nx - 1) → q - start + 1 < v.grid.nx → loops_at v q ≡ []
  no_loops_at q k low upto least most within =
      let x : ℕ = q - start in
      let here : start + x ≡ q = omega arith in
      let case = case_at v cells are x within in
      subst (λ q. loops_at v q ≡ []) here (sym case.loops ∙ no_loops (get_or every x 0) (first_case k x upto least most))

  -- no cell between one that is listed and the next one has loops
  pub quiet_gap : (k : ℕ) → k < cells.count → AreQuiet v (start + gap k) (get_or cells.places k 0 - gap k)
  quiet_gap k low = record {
    none = λ q least most is.
        let here = active_at k low in
        let count = count_is in
        let from = gap_is k (omega (arith, low)) in
        let end : get_or listed k (v.grid.nx - 1) ≡ get_or listed k 0 = get_or_default listed k (v.grid.nx - 1) 0 (omega (arith, low, count)) in
        let within = cell_low k low in
        no_loops_at q k (omega (arith, least)) (omega (arith, low, count)) (omega (arith, least, from)) (omega (arith, least, most, here, end)) (omega (arith, least, most, within));
  }

  pub gap_low : 0 < v.grid.nx → (k : ℕ) → k ≤ cells.count → gap k < v.grid.nx
  gap_low some zero low = some
  gap_low some (suc k) low = let within = cell_low k (omega (arith, low)) in omega (arith, within)

  -- and none behind the last one
  pub quiet_rest : 0 < v.grid.nx → AreQuiet v (start + gap cells.count) (v.grid.nx - gap cells.count)
  quiet_rest some = record {
    none = λ q least most is.
        let count = count_is in
        let from = gap_is cells.count (omega arith) in
        let low = gap_low some cells.count (omega arith) in
        let end : get_or listed cells.count (v.grid.nx - 1) ≡ v.grid.nx - 1 = get_or-eq_default listed (v.grid.nx - 1) (omega (arith, count)) in
        elim (cases_lt (q - start + 1) v.grid.nx) [
          | inl within ↦ no_loops_at q cells.count (omega (arith, least)) (omega (arith, count)) (omega (arith, least, from)) (omega (arith, within, end)) within
          | inr last ↦ (last_point v cells.y cells.z some (omega (arith, are.y)) (omega (arith, are.z))).none q (omega (arith, least, last)) (omega (arith, least, most, low)) is
        ];
  }
