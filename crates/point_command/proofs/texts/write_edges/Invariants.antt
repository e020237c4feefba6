use Rattle.std.proofs.Common.{◌++◌, drop}
use Rattle.byte_streams.proofs.Staging.{HasStaged}
use Rattle.point_command.specs.Edges.{row_lines}
use Rattle.point_command.proofs.texts.write_edges.Given as goal

abbrev pub invariant-loop-k : goal.invariant-loop-k
invariant-loop-k g l = record {
  staged : HasStaged (g.K.Sink.seen l.fn.sink) (g.K.Sink.seen l.sink) (l.fn.block.waiting ++ row_lines l.texts l.edges l.places) l.block.waiting
      (row_lines l.texts (drop l.k l.edges) (drop l.k l.places));
}
