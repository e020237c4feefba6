use Rattle.std.proofs.Common.{◌≡◌, ℕ, ◌+◌, ◌<◌, ◌≤◌}
use Rattle.brick_store.specs.Copies.{first_brick_along}
use Rattle.brick_store.specs.Holding.{brick_at}
use Rattle.span_tree.specs.Nodes.{node_at}
use Rattle.span_tree.specs.Spans.{one_span}
use Rattle.span_tree.proofs.one_value.is_one_slice.Given as goal

abbrev pub invariant-loop-y : goal.invariant-loop-y
invariant-loop-y l = (x j : ℕ) → first_brick_along l.area.low.x ≤ x → x ≤ first_brick_along l.area.high.x → first_brick_along l.area.low.y ≤ j → j < l.y → node_at l.nodes (l.half + brick_at l.sizes x j l.z) ≡ one_span l.value
