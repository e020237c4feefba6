use Rattle.iso_base.specs.Triangles.{IsBelow, triangles_of}
use Rattle.arc_rings.proofs.ArcLaws.{all_of}
use Rattle.mesh_report.proofs.Reach.{component_is}
use Rattle.mesh_report.proofs.laws.component_is_least_reached.Goals as goal

pub returns : goal.returns
returns c = λ m v is low. component_is m.vertex_count (triangles_of m.triangles) v (all_of (IsBelow m.vertex_count) m.triangles is) low
