use Rattle.std.proofs.Common.{◌∙◌, ◌++◌, subst, arith}
use Rattle.std.proofs.lemmas.List.{at_drop_all}
use Rattle.std.proofs.lemmas.Result.{err_from_is_err_and}
use Rattle.byte_streams.proofs.Staging.{HasStaged, staged_first, staged_front, staged_more, staged_whole}
use Rattle.plane_contour.specs.Texts.{points_text}
use Rattle.plane_contour.proofs.Texts.{next_point}
use Rattle.plane_contour.proofs.text.gather_points.Goals as goal

pub loop-point-init : goal.loop-point-init
loop-point-init g c = staged_first (g.K.Sink.seen c.args.sink.now) c.args.waiting.now.bytes (points_text c.args.padded c.args.points.now)

pub returns-in_err-gather : goal.returns-in_err-gather
returns-in_err-gather g c =
    let p = err_from_is_err_and c.from_residual.result c.from_residual.ensures.1 in
    rw p.1 (staged_front _ _ _ _ _ _ _ _ _ _ _ _
    (next_point c.args.padded _ _ _ _ c.as_str.result.now c.args.points.now c.loop-point.point-index _ c.loop-point-test.true (c.as_str.ensures.value ∙ c.point_text.ensures) c.loop-point.invariant)
    c.in_err-gather.ensures)

pub loop-point-preserved : goal.loop-point-preserved
loop-point-preserved g c =
    staged_more _ _ _ _ _ _ _ _ _
    (next_point c.args.padded _ _ _ _ c.as_str.result.now c.args.points.now c.loop-point.point-index _ c.loop-point-test.true (c.as_str.ensures.value ∙ c.point_text.ensures) c.loop-point.invariant)
    c.in_ok-gather.ensures

pub returns : goal.returns
returns g c =
    staged_whole _ _ _ _ _ _ (subst (HasStaged (g.K.Sink.seen c.args.sink.now) (g.K.Sink.seen c.loop-point.sink) (c.args.waiting.now.bytes ++ points_text c.args.padded c.args.points.now) c.loop-point.waiting.bytes)
    (at_drop_all (points_text c.args.padded) c.args.points.now c.loop-point.point-index (omega arith)) c.loop-point.invariant)
