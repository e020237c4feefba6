use Rattle.std.proofs.Common.{◌≡◌, ℕ, ◌+◌, ◌<◌, ◌≤◌}
use Rattle.brick_store.specs.Copies.{first_brick_along}
use Rattle.brick_store.specs.Holding.{brick_at}
use Rattle.span_tree.specs.Nodes.{node_at}
use Rattle.span_tree.specs.Spans.{one_span}
use Rattle.span_tree.proofs.one_value.is_one_line.Given as goal

abbrev pub invariant-loop-x : goal.invariant-loop-x
invariant-loop-x l = (j : ℕ) → first_brick_along l.area.low.x ≤ j → j < l.x → node_at l.nodes (l.half + brick_at l.sizes j l.y l.z) ≡ one_span l.value
