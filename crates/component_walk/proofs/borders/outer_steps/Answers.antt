use Rattle.std.proofs.Common.{arith}
use Rattle.component_walk.proofs.BorderSteps.{steps_end, steps_more, steps_start}
use Rattle.component_walk.proofs.borders.outer_steps.Goals as goal

pub loop-at-init : goal.loop-at-init
loop-at-init c = record {
  least = omega arith;
  few = omega arith;
  left = steps_start c.args.sizes.now c.args.cell.index c.args.edges.now (omega (arith, c.requires.edges.least));
}

pub loop-at-preserved : goal.loop-at-preserved
loop-at-preserved c = record {
  least = omega arith;
  few = omega (arith, c.outer_step-outer.ensures.bound, c.loop-at.invariant.few);
  left = steps_more c.args.sizes.now c.args.cell.index c.args.edges.now c.loop-at.outer c.loop-at.at c.outer_step-outer.result (omega (arith, c.loop-at.invariant.least)) (omega (arith, c.loop-at-test.true)) c.outer_step-outer.ensures.value c.loop-at.invariant.left;
}

pub returns-clause-value : goal.returns-clause-value
returns-clause-value c =
    steps_end c.args.sizes.now c.args.cell.index c.args.edges.now c.loop-at.outer c.loop-at.at c.outer_step.result (omega (arith, c.loop-at.auto.at-end, c.loop-at-test.false, c.requires.edges.least)) c.outer_step.ensures.value c.loop-at.invariant.left
