use Rattle.std.proofs.Common.{length, sym, ◌∙◌, arith}
use Rattle.std.proofs.lemmas.List.{take_rest, drop_all}
use Rattle.text_samples.proofs.WordLaws.{no_words, next_is, last_is}
use Rattle.text_samples.proofs.words.next_word.Goals as goal

pub returns-then-is_empty : goal.returns-then-is_empty
returns-then-is_empty c = no_words c.args.bytes.now c.skip_separators-bytes.result.now c.skip_separators-bytes.ensures (sym c.is_empty.ensures ∙ c.if-is_empty.true)

pub returns-in-Some : goal.returns-in-Some
returns-in-Some c =
    next_is c.args.bytes.now c.skip_separators-bytes.result.now c.in-Some.end _ c.skip_separators-bytes.ensures (sym c.is_empty.ensures ∙ c.if-is_empty.false)
    (sym c.in-Some.ensures) (take_rest c.skip_separators-bytes.result.now c.in-Some.end)

pub returns-in-None : goal.returns-in-None
returns-in-None c =
    last_is c.args.bytes.now c.skip_separators-bytes.result.now _ c.skip_separators-bytes.ensures (sym c.is_empty.ensures ∙ c.if-is_empty.false)
    (sym c.in-None.ensures) (take_rest c.skip_separators-bytes.result.now (length c.skip_separators-bytes.result.now) ∙ drop_all (length c.skip_separators-bytes.result.now) c.skip_separators-bytes.result.now (omega arith))
