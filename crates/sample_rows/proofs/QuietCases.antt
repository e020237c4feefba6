-- Cells without loops, by their cases.
use Rattle.std.proofs.Common.{◌≡◌, ℕ, [], refl, sym, ◌∙◌, arith}
use Rattle.case_table.specs.Cases.{case_at, cases}
use Rattle.cell_loops.specs.Loops.{row_loops}
use Rattle.flat_mesh.specs.Faces.{loops_at}
use Rattle.flat_mesh.specs.Lattice.{Leveled}
use Rattle.mesh_rows.specs.Rows.{IsCaseOf}

-- the first case has none
pub no_loops : row_loops 0 ≡ []
unfolding row_loops case_at cases
no_loops = refl

pub quiet_case : (v : Leveled) (q : ℕ) → loops_at v q ≡ [] → IsCaseOf v q 0
quiet_case v q none = record { small = omega arith; loops = no_loops ∙ sym none }
