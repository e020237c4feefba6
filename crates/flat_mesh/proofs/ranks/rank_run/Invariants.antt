use Rattle.std.proofs.Common.{◌≡◌, ℕ, ◌+◌, ◌-◌, ◌*◌, ◌<◌, ◌≤◌, get_or, take}
use Rattle.std.specs.List.{sum_by}
use Rattle.crossing_edges.specs.Flags.{edges_in}
use Rattle.flat_mesh.proofs.ranks.rank_run.Given as goal

abbrev pub invariant-loop-i : goal.invariant-loop-i
invariant-loop-i l = record {
  low : l.from ≤ l.i;
  number : l.number + sum_by edges_in (take l.from l.flags) ≡ l.start + sum_by edges_in (take l.i l.flags);
  bound : l.number ≤ l.start + 3 * (l.i - l.from);
  inside : (k : ℕ) → l.from ≤ k → k < l.i → get_or l.out k 0 + sum_by edges_in (take l.from l.flags) ≡ l.start + sum_by edges_in (take k l.flags);
  before : (k : ℕ) → k < l.from → get_or l.out k 0 ≡ get_or l.fn.out k 0;
}
