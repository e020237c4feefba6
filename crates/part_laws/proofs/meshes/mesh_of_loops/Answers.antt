use Rattle.part_laws.proofs.LoopLaws.{named_triangles_are}
use Rattle.part_laws.proofs.MeshParts.{loops_by_rows, loops_are_long}
use Rattle.part_laws.proofs.meshes.mesh_of_loops.Goals as goal

pub returns : goal.returns
returns c = record {
  triangles = λ g s. named_triangles_are g s;
  rows = λ g s. loops_by_rows g s;
  long = λ g s. loops_are_long g s;
}
