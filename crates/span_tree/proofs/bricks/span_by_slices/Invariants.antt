use Rattle.std.proofs.Common.{◌≡◌}
use Rattle.std.specs.List.{flat_map, fold}
use Rattle.iso_defs.specs.Lists.{below}
use Rattle.span_tree.specs.Spans.{slice_of, no_span, with_sample}
use Rattle.span_tree.proofs.bricks.span_by_slices.Given as goal

abbrev pub invariant-loop-z : goal.invariant-loop-z
invariant-loop-z g l = l.all ≡ fold with_sample no_span (flat_map (slice_of l.store l.fn.brick.0) (below l.z))
