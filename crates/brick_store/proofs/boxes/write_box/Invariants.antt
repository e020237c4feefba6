use Rattle.std.proofs.Common.{◌+◌}
use Rattle.brick_store.specs.Copies.{first_brick_along}
use Rattle.brick_store.specs.Rows.{reach_end}
use Rattle.brick_store.specs.Boxes.{AreBoxWritten}
use Rattle.brick_store.proofs.boxes.write_box.Given as goal

abbrev pub invariant-loop-z : goal.invariant-loop-z
invariant-loop-z g l = AreBoxWritten l.sizes l.area l.values (record { x = first_brick_along l.area.low.x; x_end = reach_end l.sizes.nx (l.area.high.x + 1); y = first_brick_along l.area.low.y; y_end = reach_end l.sizes.ny (l.area.high.y + 1); z = first_brick_along l.area.low.z; z_end = l.z }) (g.C.PackedList.list l.fn.copies) (g.C.PackedList.list l.copies)
