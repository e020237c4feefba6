use Rattle.std.proofs.Common.{◌+◌}
use Rattle.flat_mesh.specs.Lattice.{heights}
use Rattle.brick_rows.specs.Bricks.{AreNextTo, IsNextFrom}
use Rattle.brick_rows.proofs.active.mark_bricks.Given as goal

abbrev pub invariant-loop-x : goal.invariant-loop-x
invariant-loop-x l = record {
  next : IsNextFrom l.field.grid (heights l.field) (l.first + l.x) l.next;
  noted : AreNextTo l.field l.first l.x l.next_from;
}
