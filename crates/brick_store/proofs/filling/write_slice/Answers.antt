use Rattle.std.proofs.Common.{◌+◌, ◌*◌, arith, rules}
use Rattle.brick_store.proofs.Gathering.{begun_as, next_row, row_more}
use Rattle.brick_store.proofs.filling.write_slice.Goals as goal

pub loop-row-init : goal.loop-row-init
loop-row-init g c =
    begun_as c.args.sizes.now (g.S.Samples.list c.args.samples.now) c.args.brick.0 (81 * c.args.slice) (81 * c.args.slice + 9 * 0)
    (g.C.PackedList.list c.args.copies.now) (omega arith) c.requires.before

pub write_nine-requires-clause-room : goal.write_nine-requires-clause-room
write_nine-requires-clause-room g c =
    (next_row c.args.sizes.now (g.S.Samples.list c.args.samples.now) c.args.brick.0 c.args.slice c.loop-row.row (c.copy_place-start.result + 9 * c.loop-row.row)
    (g.C.PackedList.list c.loop-row.copies) c.requires.slice c.loop-row-test.true c.loop-row.invariant (search rules)).room

pub write_nine-requires-clause-zeros : goal.write_nine-requires-clause-zeros
write_nine-requires-clause-zeros g c =
    (next_row c.args.sizes.now (g.S.Samples.list c.args.samples.now) c.args.brick.0 c.args.slice c.loop-row.row (c.copy_place-start.result + 9 * c.loop-row.row)
    (g.C.PackedList.list c.loop-row.copies) c.requires.slice c.loop-row-test.true c.loop-row.invariant (search rules)).zeros

pub loop-row-preserved : goal.loop-row-preserved
loop-row-preserved g c =
    row_more c.args.sizes.now (g.S.Samples.list c.args.samples.now) c.args.brick.0 c.args.slice c.loop-row.row (c.copy_place-start.result + 9 * c.loop-row.row)
    (g.C.PackedList.list c.loop-row.copies) c.requires.slice c.loop-row-test.true c.loop-row.invariant (search rules) c.args.first _ (g.C.PackedList.list c.write_nine.new.copies)
    c.requires.first (search rules) (search rules) (search rules) c.write_nine.ensures

pub returns : goal.returns
returns g c =
    begun_as c.args.sizes.now (g.S.Samples.list c.args.samples.now) c.args.brick.0 (81 * c.args.slice + 9 * c.loop-row.row) (81 * (c.args.slice + 1))
    (g.C.PackedList.list c.loop-row.copies) (omega (arith, c.loop-row-test.false, c.loop-row.auto.row-end)) c.loop-row.invariant
