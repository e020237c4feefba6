use Rattle.std.proofs.Common.{◌≡◌, ◌*◌, ◌≤◌, take}
use Rattle.std.specs.List.{sum_by}
use Rattle.crossing_edges.specs.Flags.{edges_in}
use Rattle.crossing_edges.proofs.counts.count_all_edges.Given as goal

abbrev pub invariant-loop-eight : goal.invariant-loop-eight
invariant-loop-eight l = record {
  count : l.count ≡ sum_by edges_in (take (8 * l.eight) l.flags);
  bound : l.count ≤ 24 * l.eight;
}
