use Rattle.std.proofs.Common.{◌≤◌, ◌-◌}
use Rattle.component_walk.specs.Passed.{HasLeft}
use Rattle.component_walk.proofs.leaving.leave_edges.Given as goal

abbrev pub invariant-loop-at : goal.invariant-loop-at
invariant-loop-at l = record {
  most : l.at ≤ l.count;
  left : HasLeft l.place l.at l.initial.labels l.initial.edges l.labels l.edges;
}

abbrev pub decreases-loop-at : goal.decreases-loop-at
decreases-loop-at l = l.count - l.at
