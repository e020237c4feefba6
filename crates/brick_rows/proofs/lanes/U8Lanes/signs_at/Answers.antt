use Rattle.std.proofs.Common.{w8}
use Rattle.brick_rows.proofs.EightLanes.{signs_are}
use Rattle.brick_rows.proofs.lanes.U8Lanes.signs_at.Goals as goal

pub returns : goal.returns
returns c = signs_are w8 c.args.run.now c.args.at c.args.bound c.requires.room
