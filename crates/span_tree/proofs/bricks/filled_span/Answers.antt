use Rattle.std.proofs.Common.{◌≡◌, ◌∙◌, ap, subst, sym, rules, to_z, of_z, w64}
use Rattle.std.proofs.lemmas.Int.{to_z-of_z}
use Rattle.iso_base.specs.Volume.{IsSample}
use Rattle.span_tree.specs.Spans.{one_span}
use Rattle.span_tree.proofs.FilledBricks.{filled_span_is, value_is_sample}
use Rattle.span_tree.proofs.bricks.filled_span.Goals as goal

pub of-requires : goal.of-requires
of-requires c =
    let same : to_z w64 (of_z w64 c.args.value) ≡ c.args.value = search (rules, to_z-of_z) in
    let is : IsSample (to_z w64 (of_z w64 c.args.value)) = subst IsSample (sym same)
    (value_is_sample c.args.store.now c.args.area.now c.args.brick.0 c.args.value c.sizes.ensures.volume c.requires.brick c.requires.inside c.requires.filled) in
    record { least = is; greatest = is }

pub returns : goal.returns
returns c =
    let same : to_z w64 (of_z w64 c.args.value) ≡ c.args.value = search (rules, to_z-of_z) in
    c.of.ensures
    ∙ (ap one_span same
    ∙ filled_span_is c.args.store.now c.args.area.now c.args.brick.0 c.args.value c.sizes.ensures.volume c.requires.brick c.requires.inside c.requires.filled)
