use Rattle.std.proofs.Common.{◌≡◌, ℕ, ◌+◌, ◌-◌, ◌<◌, ◌≤◌, length, get_or}
use Rattle.component_walk.proofs.cells.looped_among.Given as goal

abbrev pub invariant-loop-at : goal.invariant-loop-at
invariant-loop-at l = record {
  long : length l.eight ≡ 8;
  same : (k : ℕ) → k < l.at - l.from → get_or l.eight k 0 ≡ get_or l.cases (l.from + k) 0;
  rest : (k : ℕ) → l.at - l.from ≤ k → get_or l.eight k 0 ≡ 0;
}
