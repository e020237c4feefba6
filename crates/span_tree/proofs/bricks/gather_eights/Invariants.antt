use Rattle.std.proofs.Common.{◌≡◌, ◌*◌, map, take}
use Rattle.std.specs.List.{flat_map}
use Rattle.iso_defs.specs.Lists.{below}
use Rattle.span_tree.specs.Spans.{row_of}
use Rattle.span_tree.proofs.bricks.gather_eights.Given as goal

abbrev pub invariant-loop-y : goal.invariant-loop-y
invariant-loop-y g l = map g.T.Packed.value (take (8 * l.y) l.into) ≡ flat_map (row_of l.store l.fn.brick.0 l.fn.z) (below l.y)
