use Rattle.std.proofs.Common.{◌+◌, length}
use Rattle.brick_store.specs.Copies.{first_brick_along}
use Rattle.brick_store.specs.Rows.{AreRowWritten, reach_end}
use Rattle.brick_store.proofs.rows.write_row.Given as goal

abbrev pub invariant-loop-z : goal.invariant-loop-z
invariant-loop-z g l =
    AreRowWritten l.sizes l.p l.values (record {
      x = first_brick_along l.p.x;
      x_end = reach_end l.sizes.nx (l.p.x + length l.values);
      y = first_brick_along l.p.y;
      y_end = reach_end l.sizes.ny (l.p.y + 1);
      z = first_brick_along l.p.z;
      z_end = l.z;
    }) (g.C.PackedList.list l.fn.copies) (g.C.PackedList.list l.copies)
