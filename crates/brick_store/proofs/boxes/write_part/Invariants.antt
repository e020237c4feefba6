use Rattle.brick_store.specs.Parts.{AreRowsPut}
use Rattle.brick_store.proofs.boxes.write_part.Given as goal

abbrev pub invariant-loop-z : goal.invariant-loop-z
invariant-loop-z g l = AreRowsPut l.brick.0 l.part l.source (record l.part { z_end = l.z }) (g.C.PackedList.list l.fn.copies) (g.C.PackedList.list l.copies)
