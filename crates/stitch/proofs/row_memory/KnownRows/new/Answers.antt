use Rattle.stitch.proofs.KnownLists.{known_none}
use Rattle.stitch.proofs.row_memory.KnownRows.new.Goals as goal

pub returns : goal.returns
returns c v = known_none v c.in_ok-new.field-0 c.in_ok-new.ensures.within c.in_ok-new.ensures.none
