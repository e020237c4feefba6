use Rattle.brick_store.proofs.PartWriting.{slice_more, no_slice}
use Rattle.brick_store.proofs.boxes.write_part.Goals as goal

pub loop-z-init : goal.loop-z-init
loop-z-init g c = no_slice c.args.brick.0 c.args.part.now c.args.source (g.C.PackedList.list c.args.copies.now)

pub loop-z-preserved : goal.loop-z-preserved
loop-z-preserved g c =
    slice_more c.args.brick.0 c.args.part.now c.args.source c.loop-z.z (g.C.PackedList.list c.args.copies.now) (g.C.PackedList.list c.loop-z.copies) _ c.requires.part
    c.loop-z.auto.z c.loop-z-test.true c.loop-z.invariant c.write_rows.ensures
