use Rattle.std.proofs.Common.{ℕ, ◌<◌, [], get_or}
use Rattle.nrrd_text.specs.ByteNumbers.{IsEntry}
use Rattle.nrrd_text.proofs.byte_numbers.write_entries.Given as goal

abbrev pub invariant-loop-b : goal.invariant-loop-b
invariant-loop-b l = (j : ℕ) → j < l.b → IsEntry (get_or l.room j []) j
