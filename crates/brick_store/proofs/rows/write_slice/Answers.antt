use Rattle.std.proofs.Common.{◌+◌, length, arith}
use Rattle.brick_store.specs.Copies.{first_brick_along}
use Rattle.brick_store.specs.Rows.{reach_end}
use Rattle.brick_store.proofs.RowWriting.{both_written, joined_y}
use Rattle.brick_store.proofs.rows.write_slice.Goals as goal

pub loop-y-preserved : goal.loop-y-preserved
loop-y-preserved g c =
    let grid = c.args.sizes.now in
    let p = c.args.p in
    both_written grid p c.args.values.now _ _ _ (g.C.PackedList.list c.args.copies.now) (g.C.PackedList.list c.loop-y.copies) _
    (joined_y grid (first_brick_along p.x) (reach_end grid.nx (p.x + length c.args.values.now)) (first_brick_along p.y) 0 c.args.z (c.args.z + 1) c.loop-y.y
    (omega (arith, c.bricks_at-first.ensures.first, c.loop-y.auto.y)))
    c.loop-y.invariant c.write_line.ensures
