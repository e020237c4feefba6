use Rattle.std.proofs.Common.{◌≡◌, ℕ, ◌+◌, ◌*◌, ◌<◌, ◌≤◌, get_or, length}
use Rattle.crossing_edges.specs.Flags.{edge_place}
use Rattle.flat_mesh.specs.Lattice.{heights}
use Rattle.flat_mesh.specs.Rows.{row_start}
use Rattle.mesh_walk.specs.Slots.{row_slot}
use Rattle.mesh_walk.proofs.places.fill_slots.Given as goal

abbrev pub invariant-loop-k : goal.invariant-loop-k
invariant-loop-k g l =
    let v = g.H.Heights.leveled l.field in
    record {
      long : length l.places ≡ 12314;
      laid : (j : ℕ) → j < l.k → get_or l.places (row_slot l.y l.z + get_or l.edges j 0) 0 ≡ edge_place v.grid (heights v) (3 * row_start v.grid l.y l.z + get_or l.edges j 0);
      before : (i : ℕ) → i < row_slot l.y l.z → get_or l.places i 0 ≡ get_or l.fn.places i 0;
      behind : (i : ℕ) → row_slot l.y l.z + 3078 ≤ i → get_or l.places i 0 ≡ get_or l.fn.places i 0;
    }
