use Rattle.std.proofs.Common.{◌≡◌, length}
use Rattle.mesh_read.specs.Ply.{count_of, is_vertex}
use Rattle.mesh_read.specs.SeenElements.{seen_elements}
use Rattle.mesh_read.proofs.elements.vertex_lines.Given as goal

abbrev pub invariant-loop-rest : goal.invariant-loop-rest
invariant-loop-rest l = count_of is_vertex (seen_elements l.rest) ≡ count_of is_vertex (seen_elements l.elements)

abbrev pub decreases-loop-rest : goal.decreases-loop-rest
decreases-loop-rest l = length l.rest
