use Rattle.std.proofs.Common.{map, take, string_bytes}
use Rattle.arguments.specs.Words.{IsFound, values}
use Rattle.arguments.proofs.options.value_of.Given as goal

abbrev pub invariant-loop-word : goal.invariant-loop-word
invariant-loop-word l = IsFound l.found (values l.head (map string_bytes (take l.word-index l.words)))
