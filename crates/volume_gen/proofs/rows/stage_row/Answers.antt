use Rattle.std.proofs.Common.{◌≡◌, ◌∙◌, ◌+◌, ◌*◌, ◌<◌, ◌-◌, min, ap, arith}
use Rattle.std.proofs.lemmas.Result.{err_from_is_err_and}
use Rattle.volume_gen.specs.Generated.{block_sample, row_samples}
use Rattle.volume_gen.proofs.Bytes.{more_staged, none_staged, not_staged}
use Rattle.volume_gen.proofs.Runs.{row_begins, row_rest, run_more}
use Rattle.volume_gen.proofs.rows.stage_row.Goals as goal

pub loop-run-init : goal.loop-run-init
loop-run-init g c = none_staged _ _ (row_samples c.args.seed c.args.y c.args.z (min (8 * 0) c.args.nx)) (row_begins c.args.seed c.args.y c.args.z (min (8 * 0) c.args.nx) (omega arith))

pub loop-run-preserved : goal.loop-run-preserved
loop-run-preserved g c =
    let run = c.loop-run.run in
    let room : 8 * run < c.args.nx = omega arith in
    let count : c.min-count.result ≡ min (c.args.nx - 8 * run) 8 = omega arith in
    more_staged _ _ _ _ _ _ _ _ _ _
    (run_more c.args.seed c.args.nx c.args.y c.args.z run c.min-count.result c.block_sample.result room count (c.block_sample.ensures ∙ ap (block_sample c.args.seed) (omega arith)))
    c.loop-run.invariant c.in_ok-stage_run.ensures

pub returns-in_err-stage_run : goal.returns-in_err-stage_run
returns-in_err-stage_run g c =
    let p = err_from_is_err_and c.from_residual.result c.from_residual.ensures.1 in
    let run = c.loop-run.run in
    let room : 8 * run < c.args.nx = omega arith in
    let count : c.min-count.result ≡ min (c.args.nx - 8 * run) 8 = omega arith in
    rw p.1 (not_staged _ _ _ _ _ _ _ _ _ (row_rest c.args.seed c.args.y c.args.z (min (8 * (run + 1)) c.args.nx) c.args.nx (omega arith))
    (more_staged _ _ _ _ _ _ _ _ _ _
    (run_more c.args.seed c.args.nx c.args.y c.args.z run c.min-count.result c.block_sample.result room count (c.block_sample.ensures ∙ ap (block_sample c.args.seed) (omega arith)))
    c.loop-run.invariant c.in_err-stage_run.ensures))
