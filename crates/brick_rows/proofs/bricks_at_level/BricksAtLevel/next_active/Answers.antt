use Rattle.brick_rows.proofs.NextBricks.{next_found, none_found}
use Rattle.brick_rows.proofs.bricks_at_level.BricksAtLevel.next_active.Goals as goal

pub returns-in-Some : goal.returns-in-Some
returns-in-Some c =
    let v = c.self.inside.store.now in
    next_found v c.args.self.now c.self.inside.level c.args.from c.in-Some.brick.0 c.self.view_is (c.in-Some.ensures.active v c.sizes.ensures.volume c.self.invariant.0)

pub returns-in-None : goal.returns-in-None
returns-in-None c =
    let v = c.self.inside.store.now in
    none_found v c.args.self.now c.self.inside.level c.args.from c.self.view_is c.sizes.ensures.volume.grid c.ranges.from.fits (c.in-None.ensures.active v c.sizes.ensures.volume c.self.invariant.0)
