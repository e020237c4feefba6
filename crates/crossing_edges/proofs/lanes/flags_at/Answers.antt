use Rattle.crossing_edges.proofs.SixteenLanes.{flags_are}
use Rattle.crossing_edges.proofs.lanes.flags_at.Goals as goal

pub returns : goal.returns
returns c =
    flags_are c.args.here.now c.args.up.now c.args.far.now c.args.at _ _ _ _ _ _ _ c.signs_at-signs.ensures c.signs_at.ensures c.signs_at-2.ensures c.signs_at-3.ensures
    c.where_apart-right.ensures c.where_apart-up.ensures c.where_apart-far.ensures
