use Rattle.brick_rows.specs.Rows.{at_level}
use Rattle.brick_tests.proofs.walks.put_walk.Goals as goal

pub counted_walk-requires-clause-right : goal.counted_walk-requires-clause-right
counted_walk-requires-clause-right c = c.in_ok-room.ensures.right (at_level c.args.store.now c.args.level)
