use Rattle.std.proofs.Common.{◌∙◌, All, ap, subst, sym}
use Rattle.iso_base.specs.Volume.{IsSample}
use Rattle.span_tree.specs.Spans.{slice_of, list_span}
use Rattle.span_tree.proofs.bricks.with_slice.Goals as goal

pub list_span-requires-clause-range : goal.list_span-requires-clause-range
list_span-requires-clause-range g c = subst (All IsSample) (sym c.rows_of.ensures.value) c.rows_of.ensures.range

pub returns-in-9 : goal.returns-in-9
returns-in-9 g c =
    c.join.ensures.samples (slice_of c.args.store.now c.args.brick.0 c.args.z) (c.list_span.ensures ∙ ap list_span c.rows_of.ensures.value)

pub returns-in-8 : goal.returns-in-8
returns-in-8 g c =
    c.join-in-8.ensures.samples (slice_of c.args.store.now c.args.brick.0 c.args.z) c.eights_span.ensures
