use Rattle.std.proofs.Common.{◌<◌}
use Rattle.component_walk.proofs.BorderSteps.{in_all, steps_none}
use Rattle.component_walk.proofs.borders.border_steps.Goals as goal

pub returns-then-is_inside-clause-value : goal.returns-then-is_inside-clause-value
returns-then-is_inside-clause-value c = steps_none c.args.sizes.now c.args.cell.index c.args.edges.now (c.is_inside.ensures c.if-is_inside.true) (in_all (λ e. e < 12) c.args.edges.now c.requires.edges.low)
