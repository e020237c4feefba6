use Rattle.std.proofs.Common.{map, arith}
use Rattle.brick_store.specs.declared.numbering.BrickId.{BrickId}
use Rattle.brick_store.proofs.Reaching.{brick_pushed}
use Rattle.brick_store.proofs.numbering.push_run.Goals as goal

pub loop-brick-preserved : goal.loop-brick-preserved
loop-brick-preserved c = record {
  bricks = brick_pushed c.loop-brick.held.items c.push.new.self.items (record { 0 = c.loop-brick.brick }) (map (λ (b : BrickId). b.0) c.args.held.now.items) c.args.from
      (omega arith) c.push.ensures.items c.loop-brick.invariant.bricks;
  len = omega arith;
}
