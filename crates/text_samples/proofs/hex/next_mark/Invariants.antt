use Rattle.std.proofs.Common.{◌≡◌, length}
use Rattle.text_samples.specs.Hex.{marks_in}
use Rattle.text_samples.proofs.hex.next_mark.Given as goal

abbrev pub invariant-loop-rest : goal.invariant-loop-rest
invariant-loop-rest l = marks_in l.bytes ≡ marks_in l.rest

abbrev pub decreases-loop-rest : goal.decreases-loop-rest
decreases-loop-rest l = length l.rest
