use Rattle.std.proofs.Common.{map, take, string_bytes}
use Rattle.arguments.specs.Words.{IsFound, plain_words}
use Rattle.arguments.proofs.options.plain_word.Given as goal

abbrev pub invariant-loop-word : goal.invariant-loop-word
invariant-loop-word l = IsFound l.found (plain_words (map string_bytes (take l.word-index l.words)))
