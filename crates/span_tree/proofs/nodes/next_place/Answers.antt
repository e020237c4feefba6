use Rattle.std.proofs.Common.{ℕ, ◌+◌, ◌*◌, ◌/◌, ◌^◌, arith}
use Rattle.span_tree.proofs.Climbing.{on_high, on_place, on_above, wider, goes_on, none_found, root_next, some_next}
use Rattle.span_tree.proofs.nodes.next_place.Goals as goal

pub loop-found-init : goal.loop-found-init
loop-found-init c = record {
  on = on_place c.args.top c.args.from c.requires.half (let n = c.requires.count in omega arith);
  start = omega arith;
  stop = omega arith;
  next = c.next_leaf-found.ensures;
}

pub overflow_add-height : goal.overflow_add-height
overflow_add-height c = (let l = c.loop-found.invariant.on.low in let t = c.requires.low in omega arith)

pub next_beside-found-requires-clause-high : goal.next_beside-found-requires-clause-high
next_beside-found-requires-clause-high c =
    on_high c.args.nodes.now c.args.top (c.loop-found.node / 2) (c.loop-found.height + 1) c.requires.count c.requires.low
    (on_above c.args.top c.loop-found.node c.loop-found.height c.loop-found.invariant.on c.if-node-gt1.true)

pub loop-found-smaller : goal.loop-found-smaller
loop-found-smaller c = omega (arith, c.if-node-gt1.true)

pub loop-found-preserved : goal.loop-found-preserved
loop-found-preserved c =
    let i = c.loop-found.invariant in
    let n : ℕ = c.loop-found.node in
    let h : ℕ = c.loop-found.height in
    let w = wider n h in
    record {
      on = on_above c.args.top n h i.on c.if-node-gt1.true;
      start = (let s = i.start in let a = w.0 in omega arith);
      stop = (let s = i.stop in let b = w.1 in omega arith);
      next = goes_on c.args.level c.args.nodes.now c.args.from ((n + 1) * 2 ^ h) (n * 2 ^ h) (n / 2 * 2 ^ (h + 1)) ((n / 2 + 1) * 2 ^ (h + 1))
          c.next_beside-found.result
          (none_found c.args.level c.args.nodes.now c.args.from (n * 2 ^ h) ((n + 1) * 2 ^ h) c.loop-found.found c.loop-found-test.ensures i.next)
          i.start i.stop
          c.next_beside-found.ensures;
    }

pub returns-else-node-gt1 : goal.returns-else-node-gt1
returns-else-node-gt1 c =
    let i = c.loop-found.invariant in
    root_next c.args.level c.args.nodes.now c.args.top c.args.from c.loop-found.node c.loop-found.height c.loop-found.found i.on c.if-node-gt1.false i.next

pub returns-after-loop-found : goal.returns-after-loop-found
returns-after-loop-found c =
    let i = c.loop-found.invariant in
    some_next c.args.level c.args.nodes.now c.args.top c.args.from c.loop-found.node c.loop-found.height c.loop-found.found c.loop-found-test.ensures i.on
    c.requires.half i.start i.next
