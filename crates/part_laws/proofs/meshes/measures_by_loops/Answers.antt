use Rattle.part_laws.proofs.MeshParts.{measures_are}
use Rattle.part_laws.proofs.meshes.measures_by_loops.Goals as goal

pub returns : goal.returns
returns c = λ g s at thick. measures_are g s thick at
