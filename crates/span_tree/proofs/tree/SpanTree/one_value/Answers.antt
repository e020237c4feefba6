use Rattle.std.proofs.Common.{◌∙◌, subst, sym, to_z, of_z, w64}
use Rattle.iso_base.specs.Points.{IsPoint}
use Rattle.span_tree.specs.Spans.{Tree}
use Rattle.span_tree.proofs.OneValue.{tree_of_one}
use Rattle.span_tree.proofs.tree.SpanTree.one_value.Goals as goal

pub returns : goal.returns
returns c = λ v is right.
    tree_of_one c.self.inside.sizes c.self.inside.height c.places_below-half.result c.self.inside.nodes.items v c.args.area.now
    (to_z w64 (of_z w64 c.first_least-value.result)) c.self.invariant is c.low.ensures.area
    (subst (λ (t : Tree). IsPoint t.grid c.args.area.now.high) (sym c.self.view_is) c.requires)
    c.places_below-half.ensures.value (c.self.view_is ∙ right) (rw c.deref-2.ensures.value at c.if-not-is_one.ensures)
