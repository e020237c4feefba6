use Rattle.part_laws.proofs.MeshParts.{summary_is}
use Rattle.part_laws.proofs.meshes.summary_by_loops.Goals as goal

pub returns : goal.returns
returns c = λ g s thick. summary_is g s thick
