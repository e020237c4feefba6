use Rattle.std.proofs.Common.{◌≡◌, ◌∙◌, subst}
use Rattle.std.proofs.lemmas.Result.{err_from_is_err_and}
use Rattle.byte_streams.specs.Seen.{Stages}
use Rattle.byte_streams.proofs.Staging.{stages_both, stages_first}
use Rattle.plane_contour.specs.Texts.{head_line, points_text}
use Rattle.plane_contour.proofs.text.gather_line.Goals as goal

pub returns-in_err-gather : goal.returns-in_err-gather
returns-in_err-gather g c =
    let p = err_from_is_err_and c.from_residual.result c.from_residual.ensures.1 in
    let text : c.as_str.result.now ≡ head_line c.args.line.now = c.as_str.ensures.value ∙ c.head_text.ensures in
    rw p.1 (stages_first _ _ _ _ _ _ _ _ _ (subst (Stages (g.K.Sink.seen c.args.sink.now) (g.K.Sink.seen c.gather.new.sink) c.args.waiting.now.bytes c.gather.new.waiting.bytes _) text c.in_err-gather.ensures))

pub returns : goal.returns
returns g c =
    let text : c.as_str.result.now ≡ head_line c.args.line.now = c.as_str.ensures.value ∙ c.head_text.ensures in
    stages_both _ _ _ _ _ _ _ _ _ _ (subst (Stages (g.K.Sink.seen c.args.sink.now) (g.K.Sink.seen c.gather.new.sink) c.args.waiting.now.bytes c.gather.new.waiting.bytes _) text c.in_ok-gather.ensures)
    (subst (λ l. Stages (g.K.Sink.seen c.gather.new.sink) (g.K.Sink.seen c.gather_points.new.sink) c.gather.new.waiting.bytes c.gather_points.new.waiting.bytes c.gather_points.result (points_text c.args.padded l)) c.points.ensures.value c.gather_points.ensures)
