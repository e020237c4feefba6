use Rattle.stitch.proofs.KnownLists.{known_none}
use Rattle.stitch.proofs.room.RowRoom.forget.Goals as goal

pub returns-clause-right : goal.returns-clause-right
returns-clause-right c v w are = known_none w c.forget.new.self (c.forget.ensures.within are.within.most) c.forget.ensures.none
