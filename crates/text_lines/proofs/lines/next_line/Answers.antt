use Rattle.std.proofs.Common.{◌+◌, length, sym, ◌∙◌, arith}
use Rattle.std.proofs.lemmas.List.{take_rest, drop_all}
use Rattle.text_lines.proofs.LineLaws.{line_is, line_none}
use Rattle.text_lines.proofs.lines.next_line.Goals as goal

pub returns-in-Some-clause-line : goal.returns-in-Some-clause-line
returns-in-Some-clause-line c = line_is c.args.bytes.now c.in-Some.end c.without_return.result _ (sym c.in-Some.ensures) c.without_return.ensures.value (take_rest c.args.bytes.now (c.in-Some.end + 1))

pub returns-in-None-clause-line : goal.returns-in-None-clause-line
returns-in-None-clause-line c = line_none c.args.bytes.now _ (sym c.in-None.ensures) (sym c.is_empty.ensures ∙ c.if-is_empty.false) (take_rest c.args.bytes.now (length c.args.bytes.now) ∙ drop_all (length c.args.bytes.now) c.args.bytes.now (omega arith))
