use Rattle.std.proofs.Common.{◌≡◌, ℕ, ◌+◌, ◌*◌, ◌<◌, get_or}
use Rattle.crossing_edges.specs.Flags.{edge_place}
use Rattle.flat_mesh.specs.Lattice.{heights}
use Rattle.flat_mesh.specs.Rows.{row_start}
use Rattle.brick_rows.proofs.crossings.place_edges.Given as goal

abbrev pub invariant-loop-i : goal.invariant-loop-i
invariant-loop-i g l =
    (k : ℕ) → k < l.i → get_or l.places k 0 ≡ edge_place l.field.grid (heights l.field) (3 * row_start l.field.grid l.row.y l.row.z + get_or l.edges k 0)
