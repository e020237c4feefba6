use Rattle.std.proofs.Common.{arith}
use Rattle.mesh_walk.proofs.CornerLanes.{eight_put}
use Rattle.mesh_walk.proofs.corners.fill_eight.Goals as goal

pub returns : goal.returns
returns c = eight_put c.args.table.now c.args.from c.args.far (omega (arith, c.requires.from, c.told-table)) c.args.list.now c.args.at (omega (arith, c.requires.at, c.told-list))
