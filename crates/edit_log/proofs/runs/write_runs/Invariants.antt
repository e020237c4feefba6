use Rattle.std.proofs.Common.{◌≡◌, ◌-◌, ◌≤◌, drop}
use Rattle.edit_log.specs.Runs.{values_left, values_of}
use Rattle.edit_log.proofs.RunLaws.{part_restored}
use Rattle.edit_log.proofs.runs.write_runs.Given as goal

abbrev pub invariant-loop-k : goal.invariant-loop-k
invariant-loop-k l = record {
  restored : l.store ≡ record l.fn.store { samples = part_restored l.fn.store.grid l.area (values_of l.runs) l.k l.fn.store.samples };
  rest : values_left l.runs l.rest ≡ drop l.k (values_of l.runs);
  end : l.k ≤ l.count;
}

abbrev pub decreases-loop-k : goal.decreases-loop-k
decreases-loop-k l = l.count - l.k
