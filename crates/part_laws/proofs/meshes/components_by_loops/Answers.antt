use Rattle.part_laws.proofs.MeshParts.{component_of_edge, components_are_classes, triangles_of_class}
use Rattle.part_laws.proofs.meshes.components_by_loops.Goals as goal

pub returns : goal.returns
returns c = record {
  component = λ g s e thick l k. component_of_edge g s thick e l k;
  all = λ g s thick. components_are_classes g s thick;
  triangles = λ g s e thick l k. triangles_of_class g s thick e l k;
}
