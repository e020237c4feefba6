use Rattle.std.proofs.Common.{◌≡◌, length}
use Rattle.text_samples.specs.Text.{skip_separators}
use Rattle.text_samples.proofs.words.skip_separators.Given as goal

abbrev pub invariant-loop-rest : goal.invariant-loop-rest
invariant-loop-rest l = skip_separators l.rest ≡ skip_separators l.bytes

abbrev pub decreases-loop-rest : goal.decreases-loop-rest
decreases-loop-rest l = length l.rest
