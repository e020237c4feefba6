use Rattle.sample_rows.proofs.SameBytes.{one_run_more}
use Rattle.sample_rows.proofs.signs.are_rows_alike.Goals as goal

pub loop-run-preserved : goal.loop-run-preserved
loop-run-preserved c =
    let signs = c.args.signs in
    let run = c.loop-run.run in
    let before = c.loop-run.invariant in
    let more = c.are_many_alike.ensures in
    let alike = c.if-not-are_many_alike.false in
    record {
      here = one_run_more signs.here.now run c.args.sign before.here (more.here alike);
      up = one_run_more signs.up.now run c.args.sign before.up (more.up alike);
      far = one_run_more signs.far.now run c.args.sign before.far (more.far alike);
      both = one_run_more signs.both.now run c.args.sign before.both (more.both alike);
    }
