use Rattle.std.proofs.Common.{◌≡◌, ◌≤◌, length}
use Rattle.component_walk.specs.Walks.{IsLonger}
use Rattle.component_walk.proofs.loops.Walked.know_more.Given as goal

abbrev pub invariant-loop-at : goal.invariant-loop-at
invariant-loop-at g l = record {
  least : length l.initial.self.tallies.items ≤ l.at;
  labels : l.self.labels ≡ l.initial.self.labels;
  order : l.self.edges.order.items ≡ l.initial.self.edges.order.items;
  passed : l.self.edges.count ≡ l.initial.self.edges.count;
  longer : IsLonger g.T.Tally.value g.T.Tally.fits (length l.initial.self.tallies.items) l.at l.initial.self.tallies.items l.self.tallies.items l.initial.self.edges.crossings.items l.self.edges.crossings.items;
}
