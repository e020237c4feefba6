-- The cases of a row of cells, brick by brick.
use Rattle.std.proofs.Common.{◌≡◌, ℕ, ◌+◌, ◌-◌, ◌*◌, ◌<◌, ◌≤◌, true, false, List, [], length, get_or, min, sym, ◌∙◌, ap, subst, arith, inl, inr, zero-add}
use Rattle.std.proofs.lemmas.Bool.{cases_lt}
use Rattle.std.proofs.lemmas.List.{get_or-map, length-map}
use Rattle.std.proofs.lemmas.List.FromFn.{get_or-map-range_with_len, length-map-range_with_len}
use Rattle.iso_defs.specs.Grid.{index}
use Rattle.iso_defs.specs.Bricks.{brick_point, cell_case, cells_along, is_active, row_cases}
use Rattle.iso_base.specs.Volume.{IsGrid}
use Rattle.cell_loops.specs.Loops.{row_loops}
use Rattle.flat_mesh.specs.Faces.{loops_at}
use Rattle.flat_mesh.specs.Lattice.{Leveled, heights}
use Rattle.brick_rows.specs.declared.bricks.BrickRow.{BrickRow}
use Rattle.brick_rows.specs.Bricks.{HoldRow}
use Rattle.brick_rows.specs.Named.{HaveLoops, IsCellRow, Named, NamesCases}
use Rattle.mesh_rows.specs.Rows.{AreCasesTo, IsCaseOf}
use Rattle.brick_rows.proofs.Places.{cell_row, point_is, row_there, start_x, starts}
use Rattle.brick_rows.proofs.QuietBricks.{quiet_cell}
use Rattle.brick_rows.proofs.CellCases.{case_is, quiet_case}

module _ (v : Leveled) (is : IsGrid v.grid) (x y z : ℕ) (hx : 8 * x + 1 < v.grid.nx) (hy : y + 1 < v.grid.ny) (hz : z + 1 < v.grid.nz) (held : BrickRow) (hold : HoldRow v.grid y z held) where
  y_in : y < v.grid.ny
  y_in = omega arith

  z_in : z < v.grid.nz
  z_in = omega arith

  abbrev brick : ℕ
  brick = held.first + x

  -- how many cells the brick has along x
  pub cells_are : cells_along v.grid brick ≡ min 8 (v.grid.nx - 1 - 8 * x)
  cells_are = ap (λ n. min 8 (v.grid.nx - 1 - n)) (starts v.grid is x y z hx y_in z_in held hold 0 ∙ start_x v.grid is x y z hx y_in z_in)

  pub is_row : IsCellRow v.grid brick held.y held.z
  is_row = cell_row v.grid is x y z hx y_in z_in held hold hy hz

  -- the cases that are named for an active brick
  module _ (names : Named) (named : NamesCases names v.grid (heights v)) (active : is_active v.grid (heights v) brick ≡ true) (run : List ℕ) (same : run ≡ names.cases brick held.y held.z) where
    run_is : HaveLoops run (row_cases v.grid (heights v) brick held.y held.z)
    run_is = subst (λ l. HaveLoops l (row_cases v.grid (heights v) brick held.y held.z)) (sym same) (named.each brick held.y held.z active is_row)

    row_long : length (row_cases v.grid (heights v) brick held.y held.z) ≡ cells_along v.grid brick
    row_long = length-map-range_with_len (λ i. cell_case v.grid (heights v) (brick_point v.grid brick i held.y held.z)) 0 (cells_along v.grid brick)

    run_long : length run ≡ cells_along v.grid brick
    run_long =
        sym (length-map run row_loops) ∙ (ap length run_is.loops ∙ (length-map (row_cases v.grid (heights v) brick held.y held.z) row_loops ∙ row_long))

    pub run_length : length run ≡ min 8 (v.grid.nx - 1 - 8 * x)
    run_length = run_long ∙ cells_are

    run_at : (i : ℕ) → i < length run → IsCaseOf v (index v.grid (8 * x + i) y z) (get_or run i 0)
    run_at i low =
        let q : ℕ = index v.grid (8 * x + i) y z in
        let within : i < cells_along v.grid brick = omega (arith, run_long) in
        let here : get_or (row_cases v.grid (heights v) brick held.y held.z) i 0 ≡ cell_case v.grid (heights v) (index v.grid (8 * x + i) y z)
        = get_or-map-range_with_len (λ i. cell_case v.grid (heights v) (brick_point v.grid brick i held.y held.z)) 0 (cells_along v.grid brick) i i 0 within (zero-add i)
        ∙ ap (cell_case v.grid (heights v)) (point_is v.grid is x y z hx y_in z_in held hold i) in
        record {
          small = run_is.small i 0 low;
          loops = sym (get_or-map row_loops run i 0 [] low) ∙ (ap (λ l. get_or l i []) run_is.loops
              ∙ (get_or-map row_loops (row_cases v.grid (heights v) brick held.y held.z) i 0 [] (omega (arith, row_long)) ∙ (ap row_loops here ∙ (case_is v q).loops)));
        }

    pub cases_more : (start : ℕ) (old new : List ℕ) → start ≡ 8 * x
        → ((k : ℕ) → k < length run → get_or new (start + k) 0 ≡ get_or run k 0) → ((k : ℕ) → k < start → get_or new k 0 ≡ get_or old k 0)
        → AreCasesTo v y z (8 * x) old → AreCasesTo v y z (8 * x + 8) new
    cases_more start old new at inside before cases k in_row low =
        elim (cases_lt k (8 * x)) [
          | inl earlier ↦ subst (IsCaseOf v (index v.grid k y z)) (sym (before k (omega arith))) (cases k in_row earlier)
          | inr here ↦ (
              let i : ℕ = k - 8 * x in
              let within : i < length run = let len = run_length in omega arith in
              let there : start + i ≡ k = omega arith in
              let point : 8 * x + i ≡ k = omega arith in
              let e : get_or new k 0 ≡ get_or run i 0 = sym (ap (λ n. get_or new n 0) there) ∙ inside i within in
              subst (IsCaseOf v (index v.grid k y z)) (sym e) (subst (λ n. IsCaseOf v (index v.grid n y z) (get_or run i 0)) point (run_at i within)))
        ]

  -- the cells of a brick that is not active have no loops
  pub quiet_loops : is_active v.grid (heights v) brick ≡ false → (k : ℕ) → k + 1 < v.grid.nx → 8 * x ≤ k → k < 8 * x + 8 → loops_at v (index v.grid k y z) ≡ []
  quiet_loops quiet k in_row from low =
      let i : ℕ = k - 8 * x in
      let point : 8 * x + i ≡ k = omega arith in
      let wide : 8 * x + (i + 1) < v.grid.nx = omega arith in
      let there = row_there v.grid is x y z hx y_in z_in held hold (i + 1) 1 1 wide hy hz in
      quiet_cell v brick i held.y held.z (index v.grid k y z) quiet (omega arith) (is_row.y_low) (is_row.z_low) there
      (point_is v.grid is x y z hx y_in z_in held hold i ∙ ap (λ n. index v.grid n y z) point)

  -- as case 0 has none
  pub quiet_at : is_active v.grid (heights v) brick ≡ false → (k : ℕ) → k + 1 < v.grid.nx → 8 * x ≤ k → k < 8 * x + 8 → IsCaseOf v (index v.grid k y z) 0
  quiet_at quiet k in_row from low = quiet_case v (index v.grid k y z) (quiet_loops quiet k in_row from low)
