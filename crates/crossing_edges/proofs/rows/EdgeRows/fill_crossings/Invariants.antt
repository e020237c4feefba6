use Rattle.std.proofs.Common.{◌≡◌, ℕ, ◌+◌, ◌*◌, ◌<◌, get_or, length}
use Rattle.crossing_edges.specs.Flags.{edge_place}
use Rattle.crossing_edges.specs.Leveled.{heights}
use Rattle.crossing_edges.proofs.rows.EdgeRows.fill_crossings.Given as goal

abbrev pub invariant-loop-k : goal.invariant-loop-k
invariant-loop-k g l = record {
  count : length l.places ≡ 3078;
  each : (i : ℕ) → i < l.k → get_or l.places i 0 ≡ edge_place l.self.grid (heights l.self) (3 * l.start + get_or l.edges i 0);
}
