use Rattle.std.proofs.Common.{◌+◌, ◌*◌, ◌-◌, ◌∙◌, drop, map, arith}
use Rattle.std.proofs.lemmas.List.{length-drop, length-map, length-take-le}
use Rattle.span_tree.proofs.Copied.{part_values, row_among}
use Rattle.span_tree.proofs.bricks.row_of.Goals as goal

pub returns : goal.returns
returns g c =
    let value = g.T.Packed.value in
    let copies = c.args.copies.now in
    let start = 9 * (c.from.result + 9 * c.from-2.result) in
    let count = start + c.from-3.result - start in
    let row = row_among c.args.store.now c.args.brick.0 (map value copies) c.sizes.ensures.volume c.requires.brick c.requires.copies start c.from-3.result c.args.y c.args.z
    (omega (arith, c.from.ensures, c.from-2.ensures)) (omega (arith, c.from-3.ensures, c.requires.count)) c.requires.y c.requires.z in
    record {
      value = part_values value copies start count ∙ row.1.1.0;
      range = row.1.1.1;
      some = omega (arith, row.0, length-take-le count (drop start copies) (omega (arith, row.1.0, length-map copies value, length-drop start copies)));
    }
