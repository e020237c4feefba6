use Rattle.std.proofs.Common.{refl}
use Rattle.mesh_walk.proofs.SlotRows.{none_laid}
use Rattle.mesh_walk.proofs.slots.CellEdgeSlots.of.Goals as goal

pub returns-clause-ready : goal.returns-clause-ready
returns-clause-ready g c = λ style numbers v is. none_laid _ _ v _ is refl
