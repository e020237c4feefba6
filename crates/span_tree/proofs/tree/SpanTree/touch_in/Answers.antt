use Rattle.std.proofs.Common.{◌≡◌, ℕ, ◌+◌, ◌*◌, ◌^◌, ◌<◌, ◌≤◌, ◌∙◌, List, length, set, ap, subst, sym}
use Rattle.iso_defs.specs.Bricks.{brick_count}
use Rattle.span_tree.specs.Spans.{Span, Tree, span_of}
use Rattle.span_tree.specs.Nodes.{node_at}
use Rattle.span_tree.proofs.Trees.{tree_touched, whole_put}
use Rattle.span_tree.proofs.tree.SpanTree.touch_in.Goals as goal

pub returns : goal.returns
returns c =
    let g = c.self.inside.sizes in
    let height : ℕ = c.self.inside.height in
    let old : List Span = c.self.inside.nodes.items in
    let new : List Span = c.put.new.nodes in
    let b : ℕ = c.args.brick.0 in
    let s : Span = span_of c.args.store.now b in
    let count : length old ≡ c.self.inside.nodes.len = ap length (sym c.deref_mut.ensures.value) ∙ c.deref_mut.ensures.len in
    let same : length new ≡ length old = c.put.auto.nodes ∙ ap length c.deref_mut.ensures.value in
    let whole = whole_put old new c.self.inside.nodes.len (same ∙ count) count in
    let grid : g ≡ c.args.store.now.grid = ap (λ (t : Tree). t.grid) c.self.view_is ∙ c.requires.grid in
    let low : b < brick_count g = subst (λ g. b < brick_count g) (sym grid) c.requires.brick in
    let each : (k : ℕ) → length old ≤ 2 * k → node_at new k ≡ node_at (set old (2 ^ height + b) s) k
    = rw (c.deref_mut.ensures.value, c.places_below.ensures.value, c.span_in-span.ensures) at c.put.ensures.leaves in
    rw whole (tree_touched g height b old new s c.self.invariant same low each
    ∙ ap (λ (t : Tree). record t { spans = set t.spans b s }) c.self.view_is)
