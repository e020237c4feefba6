use Rattle.mesh_laws.proofs.Sizes.{few_triangles, few_vertices}
use Rattle.fan_laws.proofs.grids.mesh_sizes.Goals as goal

pub returns : goal.returns
returns c = record { vertices = λ g s. few_vertices g s; triangles = λ g s. few_triangles g s }
