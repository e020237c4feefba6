use Rattle.std.proofs.Common.{◌+◌, ◌*◌, ◌-◌, ◌∙◌, drop, map, arith}
use Rattle.std.proofs.lemmas.List.{length-drop, length-map, length-take-le}
use Rattle.span_tree.proofs.Copied.{slice_among, part_values}
use Rattle.span_tree.proofs.bricks.rows_of.Goals as goal

pub returns : goal.returns
returns g c =
    let value = g.T.Packed.value in
    let copies = c.args.copies.now in
    let start = 81 * c.from-start.result in
    let count = start + 9 * c.from.result - start in
    let slice = slice_among c.args.store.now c.args.brick.0 (map value copies) c.sizes.ensures.volume c.requires.brick c.requires.copies c.requires.whole start (9 * c.from.result) c.args.z
    (omega (arith, c.from-start.ensures)) (omega (arith, c.from.ensures, c.requires.rows)) c.requires.z in
    record {
      value = part_values value copies start count ∙ slice.1.1.0;
      range = slice.1.1.1;
      some = omega (arith, slice.0, length-take-le count (drop start copies) (omega (arith, slice.1.0, length-map copies value, length-drop start copies)));
    }
