use Rattle.std.proofs.Common.{◌≡◌, ◌+◌, ◌++◌, map, take}
use Rattle.crossing_edges.proofs.edges.add_names.Given as goal

abbrev pub invariant-loop-k : goal.invariant-loop-k
invariant-loop-k l = record {
  put : l.names.items ≡ l.fn.names.items ++ map (λ e. l.first + e) (take l.k l.edges);
}
