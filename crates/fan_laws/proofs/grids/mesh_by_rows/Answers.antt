use Rattle.mesh_laws.proofs.Rows.{edges_by_rows, centres_by_rows, triangles_by_rows, number_by_rows}
use Rattle.fan_laws.proofs.grids.mesh_by_rows.Goals as goal

pub returns : goal.returns
returns c = record {
  edges = λ g s. edges_by_rows g s;
  centres = λ g s. centres_by_rows g s;
  faces = λ g s. triangles_by_rows g s;
  numbers = λ g s r n hr low high. number_by_rows g s r n hr low high;
}
