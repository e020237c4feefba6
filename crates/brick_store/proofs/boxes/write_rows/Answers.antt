use Rattle.brick_store.proofs.PartWriting.{no_row, row_more}
use Rattle.brick_store.proofs.boxes.write_rows.Goals as goal

pub loop-y-init : goal.loop-y-init
loop-y-init g c = no_row c.args.brick.0 c.args.part.now c.args.source c.args.z (g.C.PackedList.list c.args.copies.now)

pub loop-y-preserved : goal.loop-y-preserved
loop-y-preserved g c =
    row_more c.args.brick.0 c.args.part.now c.args.source c.args.z c.loop-y.y (g.C.PackedList.list c.args.copies.now) (g.C.PackedList.list c.loop-y.copies) _ c.requires.part c.requires.z_to
    c.loop-y.auto.y c.loop-y-test.true c.loop-y.invariant c.write_row.ensures
