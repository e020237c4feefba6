use Rattle.std.proofs.Common.{◌+◌, length}
use Rattle.brick_store.specs.Copies.{first_brick_along}
use Rattle.brick_store.specs.Rows.{AreRowWritten, reach_end}
use Rattle.brick_store.proofs.rows.write_slice.Given as goal

abbrev pub invariant-loop-y : goal.invariant-loop-y
invariant-loop-y g l =
    AreRowWritten l.sizes l.p l.values (record {
      x = first_brick_along l.p.x;
      x_end = reach_end l.sizes.nx (l.p.x + length l.values);
      y = first_brick_along l.p.y;
      y_end = l.y;
      z = l.z;
      z_end = l.z + 1;
    }) (g.C.PackedList.list l.fn.copies) (g.C.PackedList.list l.copies)
