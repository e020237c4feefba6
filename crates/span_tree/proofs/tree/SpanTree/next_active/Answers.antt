use Rattle.std.proofs.Common.{ℕ, ◌+◌, ◌-◌, ◌*◌, ◌^◌, length, subst}
use Rattle.std.specs.Prelude.{Some, None}
use Rattle.span_tree.specs.Spans.{Tree, span_at, straddles}
use Rattle.brick_store.specs.Next.{IsFirst, IsNext}
use Rattle.span_tree.specs.Nodes.{IsFirstLeaf, IsNextLeaf}
use Rattle.span_tree.proofs.Trees.{leaf_first, leaf_none, next_is_active}
use Rattle.span_tree.proofs.tree.SpanTree.next_active.Goals as goal

pub returns-in_err-leaf-clause-active : goal.returns-in_err-leaf-clause-active
returns-in_err-leaf-clause-active c = λ v is right.
    let g = c.self.inside.sizes in
    let h : ℕ = c.self.inside.height in
    let nodes = c.self.inside.nodes.items in
    let none : IsNextLeaf c.args.level nodes (2 ^ h + c.args.from) (1 * 2 ^ h) ((1 + 1) * 2 ^ h) None
    = rw (c.places_below-half.ensures.value, c.deref.ensures.value) at c.in_err-leaf.ensures in
    let next : IsNext (λ b. straddles c.args.level (span_at c.args.self.now.spans b)) c.args.from (length c.args.self.now.spans) None
    = subst (λ (t : Tree). IsNext (λ b. straddles c.args.level (span_at t.spans b)) c.args.from (length t.spans) None) c.self.view_is
    (leaf_none g h nodes c.args.level c.args.from c.self.invariant none) in
    rw c.from_residual.ensures (next_is_active c.args.self.now v c.args.level c.args.from None is right next)

pub returns-clause-value : goal.returns-clause-value
returns-clause-value c =
    let g = c.self.inside.sizes in
    let h : ℕ = c.self.inside.height in
    let nodes = c.self.inside.nodes.items in
    let found : IsFirstLeaf c.args.level nodes (2 ^ h + c.args.from) (1 * 2 ^ h) ((1 + 1) * 2 ^ h) c.in_ok-leaf.leaf
    = rw (c.places_below-half.ensures.value, c.deref.ensures.value) at c.in_ok-leaf.ensures in
    rw c.places_below-half.ensures.value (subst
    (λ (t : Tree). IsFirst (λ b. straddles c.args.level (span_at t.spans b)) c.args.from (length t.spans) (c.in_ok-leaf.leaf - 2 ^ h)) c.self.view_is
    (leaf_first g h nodes c.args.level c.args.from c.in_ok-leaf.leaf c.self.invariant found))

pub returns-clause-active : goal.returns-clause-active
returns-clause-active c = λ v is right.
    next_is_active c.args.self.now v c.args.level c.args.from (Some (record { 0 = c.in_ok-leaf.leaf - c.places_below-half.result })) is right (returns-clause-value c)
