use Rattle.sample_rows.proofs.SameBytes.{one_run_more}
use Rattle.sample_rows.proofs.signs.are_all.Goals as goal

pub loop-run-preserved : goal.loop-run-preserved
loop-run-preserved c = one_run_more c.args.bytes.now c.loop-run.run c.args.byte c.loop-run.invariant (c.are_many.ensures c.if-not-are_many.false)
