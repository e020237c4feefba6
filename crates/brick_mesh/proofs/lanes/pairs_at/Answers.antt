use Rattle.brick_mesh.proofs.EightLanes.{pairs_are}
use Rattle.brick_mesh.proofs.lanes.pairs_at.Goals as goal

pub returns : goal.returns
returns c = pairs_are c.args.signs.now c.args.start _ _ c.requires.room c.requires.signs c.signs_at-first.ensures c.signs_at-second.ensures
