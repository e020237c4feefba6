use Rattle.std.proofs.Common.{◌≡◌, ◌*◌, ◌≤◌, length}
use Rattle.mesh_walk.specs.Listed.{centre_slots_to, corner_slots_to}
use Rattle.mesh_walk.proofs.parts.count_listed.Given as goal

abbrev pub invariant-loop-k : goal.invariant-loop-k
invariant-loop-k l = record {
  centres : l.centres ≡ length (centre_slots_to l.cells l.k);
  corners : l.corners ≡ length (corner_slots_to l.cells l.k);
  few_centres : l.centres ≤ 2 * l.k;
  few_corners : l.corners ≤ 36 * l.k;
}
