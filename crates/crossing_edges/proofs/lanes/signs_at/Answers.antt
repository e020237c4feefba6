use Rattle.crossing_edges.proofs.SixteenLanes.{sixteen_are}
use Rattle.crossing_edges.proofs.lanes.signs_at.Goals as goal

pub returns : goal.returns
returns c = sixteen_are c.args.row.now c.args.at c.requires
