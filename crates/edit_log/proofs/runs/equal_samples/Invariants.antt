use Rattle.std.proofs.Common.{◌≡◌, ◌-◌, ◌≤◌}
use Rattle.edit_log.specs.Runs.{gathered}
use Rattle.edit_log.proofs.RunLaws.{first_samples}
use Rattle.edit_log.proofs.runs.equal_samples.Given as goal

abbrev pub invariant-loop-k : goal.invariant-loop-k
invariant-loop-k l = record {
  values : gathered l.runs.items l.run ≡ first_samples l.store.grid l.area l.store.samples l.k;
  count : l.run.count ≤ l.k;
  end : l.k ≤ l.count;
}

abbrev pub decreases-loop-k : goal.decreases-loop-k
decreases-loop-k l = l.count - l.k
