use Rattle.std.proofs.Common.{leb, refl, w16}
use Rattle.row_bits.proofs.Lanes.{lanes_from, lanes_from_long}
use Rattle.brick_rows.proofs.EightLanes.{narrowed, signs_are, signs_fit}
use Rattle.brick_rows.proofs.lanes.U16Lanes.signs_at.Goals as goal

pub overflow_cast-result : goal.overflow_cast-result
overflow_cast-result c = signs_fit w16 leb c.args.bound (lanes_from 8 c.args.run.now c.args.at) (lanes_from_long 8 c.args.run.now c.args.at 0 c.requires.room)

pub returns : goal.returns
returns c = narrowed _ _ (λ a. refl) (signs_are w16 c.args.run.now c.args.at c.args.bound c.requires.room)
