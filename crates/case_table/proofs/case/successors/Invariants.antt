use Rattle.std.proofs.Common.{◌≡◌, ℕ, ◌<◌, get_or, length}
use Rattle.case_table.proofs.Table.{field}
use Rattle.case_table.proofs.case.successors.Given as goal

abbrev pub invariant-loop-edge : goal.invariant-loop-edge
invariant-loop-edge l = record {
  size : length l.ends ≡ 12;
  done : (k : ℕ) → k < l.edge → get_or l.ends k 0 ≡ field l.fields k;
}
