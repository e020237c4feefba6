use Rattle.std.proofs.Common.{◌∙◌, map}
use Rattle.span_tree.proofs.Copied.{each_is, span_there}
use Rattle.span_tree.proofs.bricks.span_of_whole.Goals as goal

pub list_span-requires-clause-range : goal.list_span-requires-clause-range
list_span-requires-clause-range g c =
    each_is c.args.store.now c.args.brick.0 (map g.T.Packed.value c.args.copies.now) c.sizes.ensures.volume c.requires.brick c.requires.copies c.requires.whole

pub returns : goal.returns
returns g c =
    c.list_span.ensures
    ∙ span_there c.args.store.now c.args.brick.0 (map g.T.Packed.value c.args.copies.now) c.sizes.ensures.volume c.requires.brick c.requires.copies c.requires.whole
