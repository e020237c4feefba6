use Rattle.std.proofs.Common.{◌≡◌, map, take, get_or}
use Rattle.case_faces.specs.Faces.{all_corners}
use Rattle.mesh_walk.proofs.corners.fill_table.Given as goal

abbrev pub invariant-loop-k : goal.invariant-loop-k
invariant-loop-k l = record {
  put : take l.k l.table ≡ map (λ c. get_or l.slots c 0) (take l.k all_corners);
}
