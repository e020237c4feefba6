use Rattle.std.proofs.Common.{◌≡◌, ◌+◌, ◌-◌, ◌*◌, ◌∙◌, length, map, arith}
use Rattle.std.proofs.lemmas.List.{length-map}
use Rattle.unpadded_volume.proofs.Pieces.{map_put, piece_put, piece_is}
use Rattle.unpadded_volume.proofs.rows.copy_pieces.Goals as goal

pub loop-row-preserved : goal.loop-row-preserved
loop-row-preserved g c =
    let value = g.T.Packed.value in
    let samples = map value c.args.copies.now in
    let count : length samples ≡ 729 = length-map c.args.copies.now value ∙ c.requires.copies in
    let room = length-map c.loop-row.samples value in
    rw (c.copy_from_slice.ensures.after, map_put value, piece_is value c.args.copies.now)
    (piece_put samples (map value c.args.samples.now) (map value c.loop-row.samples) c.args.from c.args.count c.args.rows c.args.at c.args.width c.loop-row.row
    (c.args.width * c.loop-row.row + c.args.at + c.args.count - (c.args.width * c.loop-row.row + c.args.at))
    (c.args.from + 9 * c.loop-row.row + c.args.count - (c.args.from + 9 * c.loop-row.row)) (c.args.from + 9 * c.loop-row.row) (c.args.width * c.loop-row.row + c.args.at)
    c.loop-row-test.true c.requires.fits (omega (arith, room, c.requires.room, c.loop-row.auto.samples)) (omega arith) (omega (arith, count, c.requires.inside, c.loop-row-test.true)) (omega arith) (omega arith) (omega arith) c.loop-row.invariant)
