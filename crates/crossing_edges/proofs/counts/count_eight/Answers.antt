use Rattle.std.proofs.Common.{arith}
use Rattle.crossing_edges.proofs.QuietRuns.{sum_stays}
use Rattle.crossing_edges.proofs.counts.count_eight.Goals as goal

pub returns-then-begin_none-clause-value : goal.returns-then-begin_none-clause-value
returns-then-begin_none-clause-value c =
    let none = c.begin_none.ensures.0 c.if-begin_none.true in
    omega (arith, sum_stays c.args.flags.now c.args.from 8 8 c.requires.eight none (omega arith))
