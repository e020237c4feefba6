use Rattle.std.proofs.Common.{◌≡◌, ℕ, ◌*◌, ◌<◌, get_or}
use Rattle.crossing_edges.specs.Signs.{inner_flag}
use Rattle.crossing_edges.proofs.flags.fill_many.Given as goal

abbrev pub invariant-loop-k : goal.invariant-loop-k
invariant-loop-k l = (i : ℕ) → i < 16 * l.k → get_or l.out i 0 ≡ inner_flag l.here l.up l.far i
