use Rattle.std.proofs.Common.{◌≡◌, ◌+◌, ◌*◌, ◌≤◌, Ok}
use Rattle.mesh_lines.specs.Blocks.{Adds}
use Rattle.mesh_walk.specs.Spans.{edges_text}
use Rattle.mesh_walk.proofs.RankedRows.{HasCome}
use Rattle.mesh_walk.proofs.edges.write_edges.Given as goal

abbrev pub invariant-loop-row : goal.invariant-loop-row
invariant-loop-row g l =
    let v = g.R.Heights.leveled l.fn.rows in
    record {
      come : HasCome v l._row l.place;
      style : l.edges.texts.style ≡ l.walk.style;
      width : l.edges.texts.count ≡ v.grid.nx;
      adds : Adds {T = Unit {0}} (g.K.Sink.seen l.fn.sink) (g.K.Sink.seen l.sink) l.fn.block l.block (Ok tt) (edges_text l.walk.style v 0 (3 * (v.grid.nx * l._row)));
      bytes : l.block.total ≤ l.fn.block.total + 192 * (v.grid.nx * l._row);
      volume : g.R.Heights.leveled l.rows ≡ v;
      kept : g.R.MeshRows.kept l.rows ≡ g.R.MeshRows.kept l.fn.rows;
      spent : g.R.MeshRows.spent l.rows ≡ g.R.MeshRows.spent l.fn.rows;
    }
