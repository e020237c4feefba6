use Rattle.std.proofs.Common.{◌∙◌, arith, rules, ◌<◌, ◌^◌, ◌%◌}
use Rattle.mesh_lines.specs.RowLines.{whole_size}
use Rattle.mesh_lines.proofs.NextWholes.{whole_digit, whole_next}
use Rattle.mesh_lines.proofs.row_texts.behind_next.Goals as goal

pub overflow_add-next : goal.overflow_add-next
overflow_add-next c =
    let low : whole_size c.args.origin c.args.axis c.args.whole < 10 ^ 10 = omega (arith, c.whole_size.ensures.value, c.whole_size.ensures.bound) in
    let last = whole_digit c.args.origin c.args.axis c.args.whole c.args.piece.now.bytes c.args.piece.now.len (search rules) low (search rules) c.requires.piece.has in
    omega (arith, last.digit)

pub returns : goal.returns
returns c =
    let low : whole_size c.args.origin c.args.axis c.args.whole < 10 ^ 10 = omega (arith, c.whole_size.ensures.value, c.whole_size.ensures.bound) in
    let last = whole_digit c.args.origin c.args.axis c.args.whole c.args.piece.now.bytes c.args.piece.now.len (search rules) low (search rules) c.requires.piece.has in
    let few : whole_size c.args.origin c.args.axis c.args.whole % 10 < 9 = omega (arith, last.digit, c.if-piece-last-eq57.false) in
    record {
      has = last.next few ∙ whole_next c.args.origin c.args.axis c.args.whole (search rules);
      few = c.requires.piece.few;
    }
