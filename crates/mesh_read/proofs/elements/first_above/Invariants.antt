use Rattle.std.proofs.Common.{◌≡◌, length, filter_map}
use Rattle.std.specs.List.{slice_get}
use Rattle.mesh_read.specs.Ply.{too_many}
use Rattle.mesh_read.specs.SeenElements.{seen_elements}
use Rattle.mesh_read.proofs.elements.first_above.Given as goal

abbrev pub invariant-loop-rest : goal.invariant-loop-rest
invariant-loop-rest l = slice_get (filter_map too_many (seen_elements l.rest)) 0 ≡ slice_get (filter_map too_many (seen_elements l.elements)) 0

abbrev pub decreases-loop-rest : goal.decreases-loop-rest
decreases-loop-rest l = length l.rest
