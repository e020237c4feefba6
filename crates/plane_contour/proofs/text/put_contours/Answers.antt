use Rattle.std.proofs.Common.{◌≡◌, ◌<◌, ◌≤◌, ◌∙◌, List, get_or, length, subst, arith}
use Rattle.std.proofs.lemmas.List.{at_drop_all}
use Rattle.std.proofs.lemmas.Result.{err_from_is_err_and}
use Rattle.byte_streams.specs.Seen.{Puts}
use Rattle.byte_streams.proofs.Staging.{HasStaged, staged_more, staged_not, staged_end}
use Rattle.plane_contour.specs.Texts.{DrawnLine, contours_text}
use Rattle.plane_contour.proofs.Texts.{lines_from}
use Rattle.plane_contour.proofs.text.put_contours.Goals as goal

pub returns-in_err-gather_line : goal.returns-in_err-gather_line
returns-in_err-gather_line g c =
    let p = err_from_is_err_and c.from_residual.result c.from_residual.ensures.1 in
    let inside : c.loop-line.line-index < length c.args.lines.now = subst (λ (l : List DrawnLine). c.loop-line.line-index < length l) c.lines-line-items.ensures c.loop-line-test.true in
    let item : c.line-item.result ≡ get_or c.args.lines.now c.loop-line.line-index c.line-item.result
    = subst (λ (l : List DrawnLine). c.line-item.result ≡ get_or l c.loop-line.line-index c.line-item.result) c.lines-line-items.ensures c.line-item.is in
    let parts = lines_from c.args.padded c.args.lines.now c.loop-line.line-index c.line-item.result inside item in
    rw p.1 (staged_not _ _ _ _ _ _ _ _ _ _
    (subst (HasStaged (g.K.Sink.seen c.args.sink.now) (g.K.Sink.seen c.loop-line.sink) (contours_text c.args.padded c.args.lines.now) c.loop-line.waiting.bytes) parts c.loop-line.invariant) c.in_err-gather_line.ensures)

pub loop-line-preserved : goal.loop-line-preserved
loop-line-preserved g c =
    let inside : c.loop-line.line-index < length c.args.lines.now = subst (λ (l : List DrawnLine). c.loop-line.line-index < length l) c.lines-line-items.ensures c.loop-line-test.true in
    let item : c.line-item.result ≡ get_or c.args.lines.now c.loop-line.line-index c.line-item.result
    = subst (λ (l : List DrawnLine). c.line-item.result ≡ get_or l c.loop-line.line-index c.line-item.result) c.lines-line-items.ensures c.line-item.is in
    let parts = lines_from c.args.padded c.args.lines.now c.loop-line.line-index c.line-item.result inside item in
    staged_more _ _ _ _ _ _ _ _ _ (subst (HasStaged (g.K.Sink.seen c.args.sink.now) (g.K.Sink.seen c.loop-line.sink) (contours_text c.args.padded c.args.lines.now) c.loop-line.waiting.bytes) parts c.loop-line.invariant) c.in_ok-gather_line.ensures

pub returns : goal.returns
returns g c =
    let ended : length c.args.lines.now ≤ c.loop-line.line-index = subst (λ (l : List DrawnLine). length l ≤ c.loop-line.line-index) c.lines-line-items.ensures (omega (arith, c.loop-line-test.false)) in
    staged_end _ _ _ _ _ _ (subst (HasStaged (g.K.Sink.seen c.args.sink.now) (g.K.Sink.seen c.loop-line.sink) (contours_text c.args.padded c.args.lines.now) c.loop-line.waiting.bytes)
    (at_drop_all (contours_text c.args.padded) c.args.lines.now c.loop-line.line-index ended) c.loop-line.invariant)
    (subst (Puts (g.K.Sink.seen c.loop-line.sink) (g.K.Sink.seen c.write_all_of.new.sink) c.write_all_of.result) (c.as_bytes.ensures.value ∙ c.as_str.ensures.value) c.write_all_of.ensures)
