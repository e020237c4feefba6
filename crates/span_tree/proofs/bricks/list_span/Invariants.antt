use Rattle.std.proofs.Common.{◌≡◌, map, take}
use Rattle.std.specs.List.{fold}
use Rattle.std.specs.Int.{int_max, int_min}
use Rattle.span_tree.proofs.bricks.list_span.Given as goal

abbrev pub invariant-loop-k : goal.invariant-loop-k
invariant-loop-k g l = record {
  least : g.T.Packed.value l.least ≡ fold int_min (g.T.Packed.value l.initial.least) (take l.k (map g.T.Packed.value l.numbers));
  greatest : g.T.Packed.value l.greatest ≡ fold int_max (g.T.Packed.value l.initial.greatest) (take l.k (map g.T.Packed.value l.numbers));
}
