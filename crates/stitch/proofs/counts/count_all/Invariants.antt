use Rattle.std.proofs.Common.{◌≡◌, ◌+◌, ◌-◌, ◌*◌, ◌<◌, ◌≤◌, true, min}
use Rattle.iso_defs.specs.Bricks.{brick_count, is_active}
use Rattle.flat_mesh.specs.Lattice.{heights}
use Rattle.brick_rows.specs.Named.{asked_among}
use Rattle.stitch.proofs.BrickCounts.{brick_centres, brick_triangles}
use Rattle.brick_rows.proofs.Uptos.{upto}
use Rattle.stitch.proofs.counts.count_all.Given as goal

abbrev pub invariant-loop-brick : goal.invariant-loop-brick
invariant-loop-brick g l = record {
  centres : l.counts.centres ≡ upto (brick_centres l.field) (min l.brick (brick_count l.field.grid));
  faces : l.counts.faces ≡ upto (brick_triangles l.field) (min l.brick (brick_count l.field.grid));
  active : l.brick < brick_count l.field.grid → is_active l.field.grid (heights l.field) l.brick ≡ true;
  same : g.R.CellRows.named l.rows ≡ g.R.CellRows.named l.fn.rows;
  least : l.fn.steps ≤ l.steps;
  most : l.steps ≤ l.fn.steps + 512 * asked_among l.field.grid (heights l.field) (g.R.CellRows.named l.fn.rows) 0 (min l.brick (brick_count l.field.grid));
}

abbrev pub decreases-loop-brick : goal.decreases-loop-brick
decreases-loop-brick g l = l.bricks - l.brick
