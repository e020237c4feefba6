use Rattle.std.proofs.Common.{length, sym, ◌∙◌, arith}
use Rattle.std.proofs.lemmas.List.{take_rest, drop_all}
use Rattle.text_lines.proofs.WordLaws.{no_words, next_is, last_is}
use Rattle.text_lines.proofs.words.next_word.Goals as goal

pub returns-then-is_empty : goal.returns-then-is_empty
returns-then-is_empty c = no_words c.args.text.now c.skip_blanks-text.result.now c.skip_blanks-text.ensures (sym c.is_empty.ensures ∙ c.if-is_empty.true)

pub returns-in-Some : goal.returns-in-Some
returns-in-Some c = next_is c.args.text.now c.skip_blanks-text.result.now c.in-Some.end _ c.skip_blanks-text.ensures (sym c.is_empty.ensures ∙ c.if-is_empty.false) (sym c.in-Some.ensures) (take_rest c.skip_blanks-text.result.now c.in-Some.end)

pub returns-in-None : goal.returns-in-None
returns-in-None c = last_is c.args.text.now c.skip_blanks-text.result.now _ c.skip_blanks-text.ensures (sym c.is_empty.ensures ∙ c.if-is_empty.false) (sym c.in-None.ensures) (take_rest c.skip_blanks-text.result.now (length c.skip_blanks-text.result.now) ∙ drop_all (length c.skip_blanks-text.result.now) c.skip_blanks-text.result.now (omega arith))
