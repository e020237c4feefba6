use Rattle.std.proofs.Common.{◌≡◌, ℕ, ◌+◌, ◌*◌, ◌<◌, get_or, length}
use Rattle.crossing_edges.specs.Flags.{edge_place}
use Rattle.flat_mesh.specs.Lattice.{heights}
use Rattle.flat_mesh.specs.Rows.{row_start}
use Rattle.sample_rows.proofs.field.ListField.fill_few.Given as goal

abbrev pub invariant-loop-i : goal.invariant-loop-i
invariant-loop-i g l = record {
  count : length l.places ≡ length l.edges;
  each : (k : ℕ) → k < l.i → get_or l.places k 0 ≡ edge_place l.self.grid (heights l.self) (3 * row_start l.self.grid l.y l.z + get_or l.edges k 0);
}
