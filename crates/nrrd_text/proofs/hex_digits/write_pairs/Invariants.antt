use Rattle.std.proofs.Common.{◌≡◌, ℕ, ◌<◌, [], get_or}
use Rattle.nrrd_text.specs.Writing.{byte_digits}
use Rattle.nrrd_text.proofs.hex_digits.write_pairs.Given as goal

abbrev pub invariant-loop-b : goal.invariant-loop-b
invariant-loop-b l = (j : ℕ) → j < l.b → get_or l.room j [] ≡ byte_digits j
