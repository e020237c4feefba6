use Rattle.crossing_edges.proofs.SixteenLanes.{apart_are}
use Rattle.crossing_edges.proofs.lanes.where_apart.Goals as goal

pub returns : goal.returns
returns c = apart_are c.args.a c.args.b c.args.number c.requires.a c.requires.b
