use Rattle.std.proofs.Common.{◌≡◌, ◌+◌, ◌≤◌, ◌++◌, take}
use Rattle.edit_log.specs.Runs.{gathered}
use Rattle.edit_log.proofs.runs.extend_all.Given as goal

abbrev pub invariant-loop-value : goal.invariant-loop-value
invariant-loop-value l = record {
  values : gathered l.runs.items l.run ≡ gathered l.fn.runs.items l.fn.run ++ take l.value-index l.values;
  count : l.run.count ≤ l.fn.run.count + l.value-index;
}
