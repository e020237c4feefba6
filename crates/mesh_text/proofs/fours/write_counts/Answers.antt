use Rattle.std.proofs.Common.{rules, arith}
use Rattle.mesh_text.proofs.Tables.{counts_more}
use Rattle.mesh_text.proofs.fours.write_counts.Goals as goal

pub loop-n-init : goal.loop-n-init
loop-n-init c = λ j low. absurd (omega arith)

pub loop-n-preserved : goal.loop-n-preserved
loop-n-preserved c =
    counts_more c.loop-n.counts c.loop-n.n _ (search rules) c.loop-n.invariant c.count_short.ensures.value c.count_short.ensures.bound

pub returns : goal.returns
returns c = record { all = search rules; each = λ n low. (c.loop-n.invariant n (omega (arith, c.loop-n-test.false))).0; few = λ n low. (c.loop-n.invariant n (omega (arith, c.loop-n-test.false))).1 }
