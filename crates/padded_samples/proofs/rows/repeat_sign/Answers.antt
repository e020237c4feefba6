use Rattle.std.proofs.Common.{arith, ◌+◌}
use Rattle.padded_samples.proofs.rows.repeat_sign.Goals as goal

pub returns-clause-inside : goal.returns-clause-inside
returns-clause-inside c = λ i low. c.loop-k.invariant.0 (c.args.from + i) (omega arith) (omega (arith, low, c.loop-k-test.false))

pub returns-clause-before : goal.returns-clause-before
returns-clause-before c = λ i low. c.loop-k.invariant.1 i low
