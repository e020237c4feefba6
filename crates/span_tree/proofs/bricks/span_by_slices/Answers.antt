use Rattle.std.proofs.Common.{◌≡◌, ◌∙◌, ap, get_or, arith}
use Rattle.std.specs.List.{flat_map, fold}
use Rattle.iso_defs.specs.Lists.{below}
use Rattle.brick_store.specs.Holding.{points_along}
use Rattle.span_tree.specs.Spans.{slice_of, no_span, with_sample}
use Rattle.span_tree.proofs.SpanLaws.{fold_lists, span_is}
use Rattle.span_tree.proofs.bricks.span_by_slices.Goals as goal

pub loop-z-preserved : goal.loop-z-preserved
loop-z-preserved g c =
    c.with_slice-all.ensures ∙ (ap (λ s. fold with_sample s (slice_of c.args.store.now c.args.brick.0 c.loop-z.z)) c.loop-z.invariant
    ∙ fold_lists (slice_of c.args.store.now c.args.brick.0) no_span c.loop-z.z)

pub returns : goal.returns
returns g c =
    let last : c.loop-z.z ≡ points_along c.args.store.now.grid c.args.brick.0 2 = omega (arith, ap (λ l. get_or l 2 0) c.points_along.ensures) in
    c.loop-z.invariant ∙ (ap (λ n. fold with_sample no_span (flat_map (slice_of c.args.store.now c.args.brick.0) (below n))) last
    ∙ span_is c.args.store.now c.args.brick.0)
