use Rattle.std.proofs.Common.{◌≡◌, ◌-◌, length}
use Rattle.edit_log.specs.Runs.{values_left}
use Rattle.edit_log.proofs.runs.pass_ended.Given as goal

abbrev pub invariant-loop-rest : goal.invariant-loop-rest
invariant-loop-rest l = values_left l.runs l.rest ≡ values_left l.runs l.fn.rest

abbrev pub decreases-loop-rest : goal.decreases-loop-rest
decreases-loop-rest l = length l.runs - l.rest.next
