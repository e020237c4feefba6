use Rattle.std.proofs.Common.{ℕ, ◌<◌, get_or, map, pos}
use Rattle.brick_rows.proofs.lanes.all_fit.Given as goal

abbrev pub invariant-loop-i : goal.invariant-loop-i
invariant-loop-i g l = record {
  fits : (k : ℕ) → k < l.i → g.T.Packed.Fits (get_or (map g.T.Packed.value l.run) k (pos 0));
}
