use Rattle.std.proofs.Common.{◌≡◌, ℕ, ◌<◌, get_or}
use Rattle.crossing_edges.specs.Signs.{inner_flag}
use Rattle.crossing_edges.proofs.flags.fill_few.Given as goal

abbrev pub invariant-loop-i : goal.invariant-loop-i
invariant-loop-i l = (k : ℕ) → k < l.i → get_or l.out k 0 ≡ inner_flag l.here l.up l.far k
