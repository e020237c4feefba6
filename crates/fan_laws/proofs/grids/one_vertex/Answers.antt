use Rattle.mesh_laws.proofs.OneVertex.{one_vertex_per_crossing, one_vertex_each}
use Rattle.fan_laws.proofs.Ranks.{place_is_number}
use Rattle.fan_laws.proofs.grids.one_vertex.Goals as goal

pub returns : goal.returns
returns c = record {
  edges = λ g s n low. one_vertex_per_crossing g s n low;
  all = λ g s n. one_vertex_each g s n;
  places = λ g s i low. place_is_number g s i low;
}
