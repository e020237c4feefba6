use Rattle.std.proofs.Common.{◌≡◌}
use Rattle.span_tree.specs.Touched.{spans_after}
use Rattle.bench_core.specs.Keeping.{without_bricks}
use Rattle.bench_core.proofs.BoxBricks.{rows_held}
use Rattle.bench_core.proofs.follow.follow_slice.Given as goal

abbrev pub invariant-loop-y : goal.invariant-loop-y
invariant-loop-y l = record {
  tree : l.tree ≡ record l.fn.tree { spans = spans_after l.store (rows_held l.store.grid l.area l.z l.y) l.fn.tree.spans };
  cache : l.cache ≡ without_bricks (rows_held l.store.grid l.area l.z l.y) l.fn.cache;
}
