-- Cases that have the loops of a cell.
use Rattle.std.proofs.Common.{◌≡◌, ℕ, [], refl, sym, ◌∙◌, arith}
use Rattle.iso_defs.specs.Bricks.{cell_case}
use Rattle.iso_defs.specs.Cell.{cell_values}
use Rattle.case_table.specs.Cases.{case_at, cases}
use Rattle.case_table.proofs.Numbering.{values_back}
use Rattle.cell_loops.specs.Loops.{row_loops}
use Rattle.flat_mesh.specs.Cases.{joined_at, signs_at}
use Rattle.flat_mesh.specs.Lattice.{Leveled, heights}
use Rattle.flat_mesh.specs.Faces.{loops_at}
use Rattle.flat_mesh.proofs.CellCase.{loops_are}
use Rattle.mesh_rows.specs.Rows.{IsCaseOf}

-- the case of a cell has its loops
pub case_is : (v : Leveled) (q : ℕ) → IsCaseOf v q (cell_case v.grid (heights v) q)
unfolding signs_at joined_at
case_is v q =
    let back = values_back (cell_values v.grid (heights v) q) refl in
    record { small = back.0; loops = loops_are v q (cell_case v.grid (heights v) q) back.1 }

pub no_loops : row_loops 0 ≡ []
unfolding row_loops case_at cases
no_loops = refl

-- the first case has none
pub quiet_case : (v : Leveled) (q : ℕ) → loops_at v q ≡ [] → IsCaseOf v q 0
quiet_case v q none = record { small = omega arith; loops = no_loops ∙ sym none }
