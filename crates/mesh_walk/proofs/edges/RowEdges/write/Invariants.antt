use Rattle.std.proofs.Common.{◌+◌, ◌*◌, ◌≤◌, Ok, take}
use Rattle.std.specs.List.{flat_map}
use Rattle.mesh_lines.specs.Blocks.{Adds}
use Rattle.mesh_rows.specs.Rows.{row_names}
use Rattle.mesh_walk.specs.Spans.{edge_line}
use Rattle.mesh_walk.proofs.edges.RowEdges.write.Given as goal

abbrev pub invariant-loop-k : goal.invariant-loop-k
invariant-loop-k g l =
    let v = g.H.Heights.leveled l.field in
    record {
      adds : Adds {T = Unit {0}} (g.K.Sink.seen l.fn.sink) (g.K.Sink.seen l.sink) l.fn.block l.block (Ok tt) (flat_map (edge_line l.self.texts.style v) (take l.k (row_names v l.self.texts.y l.self.texts.z)));
      bytes : l.block.total ≤ l.fn.block.total + 64 * l.k;
    }
