use Rattle.std.proofs.Common.{◌∙◌, All, ap, subst, sym}
use Rattle.std.specs.List.{fold}
use Rattle.iso_base.specs.Volume.{IsSample}
use Rattle.span_tree.specs.Spans.{list_span, row_of, with_sample}
use Rattle.span_tree.proofs.SpanLaws.{fold_lists}
use Rattle.span_tree.proofs.bricks.with_rows.Goals as goal

pub list_span-requires-clause-range : goal.list_span-requires-clause-range
list_span-requires-clause-range g c = subst (All IsSample) (sym c.row_of.ensures.value) c.row_of.ensures.range

pub loop-y-preserved : goal.loop-y-preserved
loop-y-preserved g c =
    let row = row_of c.args.store.now c.args.brick.0 c.args.z in
    c.join-all.ensures.samples (row c.loop-y.y) (c.list_span.ensures ∙ ap list_span c.row_of.ensures.value)
    ∙ (ap (λ s. fold with_sample s (row c.loop-y.y)) c.loop-y.invariant
    ∙ fold_lists row c.args.span c.loop-y.y)
