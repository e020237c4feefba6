use Rattle.std.proofs.Common.{◌≡◌, ◌*◌, ◌≤◌, length, take}
use Rattle.mesh_walk.specs.Listed.{centre_slots_to}
use Rattle.mesh_walk.proofs.corners.list_centres.Given as goal

abbrev pub invariant-loop-k : goal.invariant-loop-k
invariant-loop-k l = record {
  put : take l.at l.list ≡ centre_slots_to l.cells l.k;
  count : l.at ≡ length (centre_slots_to l.cells l.k);
  long : length l.list ≡ 3078;
  few : l.at ≤ 2 * l.k;
}
