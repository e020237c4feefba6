use Rattle.brick_mesh.proofs.EightLanes.{eight_are}
use Rattle.brick_mesh.proofs.lanes.signs_at.Goals as goal

pub returns : goal.returns
returns c = eight_are c.args.signs.now c.args.at c.requires
