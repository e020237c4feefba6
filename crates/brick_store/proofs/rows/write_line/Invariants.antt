use Rattle.std.proofs.Common.{◌+◌}
use Rattle.brick_store.specs.Copies.{first_brick_along}
use Rattle.brick_store.specs.Rows.{AreRowWritten}
use Rattle.brick_store.proofs.rows.write_line.Given as goal

abbrev pub invariant-loop-x : goal.invariant-loop-x
invariant-loop-x g l =
    AreRowWritten l.sizes l.p l.values (record { x = first_brick_along l.p.x; x_end = l.x; y = l.y; y_end = l.y + 1; z = l.z; z_end = l.z + 1 }) (g.C.PackedList.list l.fn.copies) (g.C.PackedList.list l.copies)
