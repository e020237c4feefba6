use Rattle.std.proofs.Common.{◌≡◌, ℕ, ◌<◌, ◌≤◌}
use Rattle.iso_base.specs.Volume.{sample}
use Rattle.edit_log.proofs.runs.are_eight.Given as goal

abbrev pub invariant-loop-k : goal.invariant-loop-k
invariant-loop-k l = (j : ℕ) → l.start ≤ j → j < l.k → sample l.values j ≡ l.value
