use Rattle.std.proofs.Common.{rules, ◌≡◌, ℕ, suc, ◌+◌, ◌*◌, ◌/◌, ◌^◌, ◌≤◌, length, sym, subst, arith, Fits, w64}
use Rattle.span_tree.specs.Nodes.{IsHigh, IsNextLeaf}
use Rattle.span_tree.proofs.Searching.{right_high}
use Rattle.span_tree.proofs.Climbing.{wider, none_beside, found_beside}
use Rattle.span_tree.proofs.nodes.next_beside.Goals as goal

pub returns-then-node-eq1 : goal.returns-then-node-eq1
returns-then-node-eq1 c = none_beside c.args.level c.args.nodes.now c.args.node c.args.height c.if-node-eq1.true

pub overflow_mul-behind : goal.overflow_mul-behind
overflow_mul-behind c =
    let wide = (wider c.args.node c.args.height).1 in
    let inside : (c.args.node + 1) * 2 ^ c.args.height ≤ length c.args.nodes.now = (let i = c.requires.high.inside in omega arith) in
    subst (λ w. Fits w64 ((c.args.node + 1) * w)) (sym c.places_below.ensures.value) (search rules)

pub next_leaf-requires-clause-high : goal.next_leaf-requires-clause-high
next_leaf-requires-clause-high c =
    let n : ℕ = c.args.node / 2 in
    let h : ℕ = c.args.height in
    let first : 2 * n + 1 ≡ c.args.node + 1 = omega (arith, c.if-node-eq1.false) in
    let above : IsHigh c.args.nodes.now n (suc h) = subst (IsHigh c.args.nodes.now n) (let e : h + 1 ≡ suc h = omega arith in e) c.requires.high in
    subst (λ m. IsHigh c.args.nodes.now m h) first (right_high c.args.nodes.now c.requires.nodes c.args.level 0 n h above)

pub returns : goal.returns
returns c =
    let h : ℕ = c.args.height in
    found_beside c.args.level c.args.nodes.now c.args.node h c.next_leaf.result (omega (arith, c.if-node-eq1.false))
    (subst (λ w. IsNextLeaf c.args.level c.args.nodes.now ((c.args.node + 1) * w) ((c.args.node + 1) * 2 ^ h) ((c.args.node + 1 + 1) * 2 ^ h) c.next_leaf.result)
    c.places_below.ensures.value c.next_leaf.ensures)
