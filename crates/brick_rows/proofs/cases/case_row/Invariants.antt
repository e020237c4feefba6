use Rattle.std.proofs.Common.{◌≡◌, ◌+◌, ◌-◌, ◌*◌, ◌<◌, ◌≤◌, min}
use Rattle.iso_defs.specs.Bricks.{brick_count, bricks_along}
use Rattle.flat_mesh.specs.Lattice.{heights}
use Rattle.brick_rows.specs.Bricks.{IsActive}
use Rattle.brick_rows.specs.Named.{asked_among}
use Rattle.brick_rows.specs.Rows.{AreZerosFrom}
use Rattle.mesh_rows.specs.Rows.{AreCasesTo}
use Rattle.brick_rows.proofs.cases.case_row.Given as goal

abbrev pub invariant-loop-x : goal.invariant-loop-x
invariant-loop-x g l = record {
  active : l.row.bricks.first + l.x < brick_count l.field.grid → IsActive l.field (l.row.bricks.first + l.x);
  cases : AreCasesTo l.field l.row.y l.row.z (8 * l.x) l.cases;
  zeros : AreZerosFrom (8 * l.x) l.cases;
  same : g.R.CellRows.named l.rows ≡ g.R.CellRows.named l.fn.rows;
  least : l.fn.steps ≤ l.steps;
  most : l.steps
      ≤ l.fn.steps + 8 * asked_among l.field.grid (heights l.field) (g.R.CellRows.named l.fn.rows) l.row.bricks.first (min l.x (bricks_along l.field.grid 0));
}

abbrev pub decreases-loop-x : goal.decreases-loop-x
decreases-loop-x g l = l.last - l.x
