use Rattle.std.proofs.Common.{◌+◌, arith}
use Rattle.brick_store.specs.Copies.{first_brick_along}
use Rattle.brick_store.proofs.RowWriting.{both_written, joined_x}
use Rattle.brick_store.proofs.rows.write_line.Goals as goal

pub loop-x-preserved : goal.loop-x-preserved
loop-x-preserved g c =
    both_written c.args.sizes.now c.args.p c.args.values.now _ _ _ (g.C.PackedList.list c.args.copies.now) (g.C.PackedList.list c.loop-x.copies) _
    (joined_x c.args.sizes.now (first_brick_along c.args.p.x) 0 c.args.y (c.args.y + 1) c.args.z (c.args.z + 1) c.loop-x.x (omega (arith, c.first_brick_along-first.ensures, c.loop-x.auto.x)))
    c.loop-x.invariant c.write_in_brick.ensures
