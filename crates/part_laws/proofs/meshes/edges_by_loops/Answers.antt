use Rattle.part_laws.proofs.FirstMet.{edges_met}
use Rattle.part_laws.proofs.meshes.edges_by_loops.Goals as goal

pub returns : goal.returns
returns c = λ g s p thick. edges_met g s p thick
