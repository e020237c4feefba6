use Rattle.brick_rows.proofs.NextBricks.{next_later}
use Rattle.brick_rows.proofs.active.next_behind.Goals as goal

pub returns-else-next-brick : goal.returns-else-next-brick
returns-else-next-brick c = next_later c.args.field.now c.args.brick c.args.next c.requires.next c.if-next-brick.false
