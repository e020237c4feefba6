use Rattle.std.proofs.Common.{◌≡◌, ◌-◌, ◌≤◌, length, take, drop}
use Rattle.edit_log.specs.Runs.{values_left}
use Rattle.edit_log.proofs.runs.take_values.Given as goal

abbrev pub invariant-loop-done : goal.invariant-loop-done
invariant-loop-done l = record {
  count : length l.values ≡ length l.fn.values;
  values : take l.done l.values ≡ take l.done (values_left l.runs l.fn.rest);
  rest : values_left l.runs l.rest ≡ drop l.done (values_left l.runs l.fn.rest);
  end : l.done ≤ length l.values;
}

abbrev pub decreases-loop-done : goal.decreases-loop-done
decreases-loop-done l = length l.values - l.done
