use Rattle.mesh_walk.proofs.CornerLanes.{slots_written}
use Rattle.mesh_walk.proofs.corners.corner_slots.Goals as goal

pub returns : goal.returns
returns c = slots_written c.args.y c.args.z c.edge_slots.result c.edge_slots.ensures.slots
