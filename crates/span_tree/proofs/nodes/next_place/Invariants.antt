use Rattle.std.proofs.Common.{◌+◌, ◌*◌, ◌^◌, ◌≤◌}
use Rattle.span_tree.specs.Nodes.{IsNextLeaf}
use Rattle.span_tree.proofs.Climbing.{IsOn}
use Rattle.span_tree.proofs.nodes.next_place.Given as goal

abbrev pub invariant-loop-found : goal.invariant-loop-found
invariant-loop-found l = record {
  on : IsOn l.top l.node l.height;
  start : l.node * 2 ^ l.height ≤ l.from;
  stop : l.from ≤ (l.node + 1) * 2 ^ l.height;
  next : IsNextLeaf l.level l.nodes l.from (l.node * 2 ^ l.height) ((l.node + 1) * 2 ^ l.height) l.found;
}

abbrev pub decreases-loop-found : goal.decreases-loop-found
decreases-loop-found l = l.node
