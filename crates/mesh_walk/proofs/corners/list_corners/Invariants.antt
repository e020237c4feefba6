use Rattle.std.proofs.Common.{◌≡◌, ◌*◌, ◌≤◌, length, take}
use Rattle.mesh_walk.specs.Listed.{corner_slots_to}
use Rattle.mesh_walk.proofs.corners.list_corners.Given as goal

abbrev pub invariant-loop-k : goal.invariant-loop-k
invariant-loop-k l = record {
  put : take l.at l.list ≡ corner_slots_to l.cells l.k;
  count : l.at ≡ length (corner_slots_to l.cells l.k);
  long : length l.list ≡ 36940;
  few : l.at ≤ 36 * l.k;
}
