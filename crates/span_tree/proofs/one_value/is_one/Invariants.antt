use Rattle.std.proofs.Common.{◌≡◌, ℕ, ◌+◌, ◌<◌, ◌≤◌}
use Rattle.brick_store.specs.Copies.{first_brick_along}
use Rattle.brick_store.specs.Holding.{brick_at}
use Rattle.span_tree.specs.Nodes.{node_at}
use Rattle.span_tree.specs.Spans.{one_span}
use Rattle.span_tree.proofs.one_value.is_one.Given as goal

abbrev pub invariant-loop-z : goal.invariant-loop-z
invariant-loop-z l = (x y j : ℕ) → first_brick_along l.area.low.x ≤ x → x ≤ first_brick_along l.area.high.x → first_brick_along l.area.low.y ≤ y → y ≤ first_brick_along l.area.high.y → first_brick_along l.area.low.z ≤ j → j < l.z → node_at l.nodes (l.half + brick_at l.sizes x y j) ≡ one_span l.value
