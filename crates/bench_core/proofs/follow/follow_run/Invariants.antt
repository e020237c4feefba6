use Rattle.std.proofs.Common.{◌≡◌, ◌-◌}
use Rattle.std.specs.List.{range_with_len}
use Rattle.span_tree.specs.Touched.{spans_after}
use Rattle.bench_core.specs.Keeping.{without_bricks}
use Rattle.bench_core.proofs.follow.follow_run.Given as goal

abbrev pub invariant-loop-brick : goal.invariant-loop-brick
invariant-loop-brick l = record {
  tree : l.tree ≡ record l.fn.tree { spans = spans_after l.store (range_with_len l.from (l.brick - l.from)) l.fn.tree.spans };
  cache : l.cache ≡ without_bricks (range_with_len l.from (l.brick - l.from)) l.fn.cache;
}
