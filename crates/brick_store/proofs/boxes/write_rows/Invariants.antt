use Rattle.brick_store.specs.Boxes.{one_slice}
use Rattle.brick_store.specs.Parts.{AreRowsPut}
use Rattle.brick_store.proofs.boxes.write_rows.Given as goal

abbrev pub invariant-loop-y : goal.invariant-loop-y
invariant-loop-y g l = AreRowsPut l.brick.0 l.part l.source (record (one_slice l.part l.z) { y_end = l.y }) (g.C.PackedList.list l.fn.copies) (g.C.PackedList.list l.copies)
