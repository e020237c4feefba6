use Rattle.std.proofs.Common.{◌≡◌, ◌+◌, ◌*◌, ◌≤◌, Ok}
use Rattle.mesh_text.specs.Numbers.{text_at}
use Rattle.mesh_lines.specs.Blocks.{Adds}
use Rattle.mesh_walk.specs.Listed.{HaveCorners}
use Rattle.mesh_walk.specs.Numbers.{HasNumber, cost_before}
use Rattle.mesh_walk.specs.Slots.{IsReady}
use Rattle.mesh_walk.specs.Spans.{faces_text}
use Rattle.mesh_walk.specs.Texts.{number_due}
use Rattle.mesh_walk.proofs.RankedRows.{HasCome}
use Rattle.mesh_walk.proofs.faces.write_faces.Given as goal

abbrev pub invariant-loop-row : goal.invariant-loop-row
invariant-loop-row g l =
    let v = g.R.Heights.leveled l.fn.rows in
    record {
      come : HasCome v l._row l.place;
      adds : Adds {T = Unit {0}} (g.K.Sink.seen l.fn.sink) (g.K.Sink.seen l.sink) l.fn.block l.block (Ok tt) (faces_text l.walk.style.format l.walk.numbers v 0 (v.grid.nx * l._row));
      bytes : l.block.total ≤ l.fn.block.total + 3072 * (v.grid.nx * l._row);
      ready : IsReady (text_at l.faces.texts.slots.texts) (number_due l.walk.style l.walk.numbers v) v l.faces.texts.next;
      slots : HaveCorners l.faces.slots.tables;
      next : HasNumber l.walk.numbers.first_centre v (v.grid.nx * l._row) l.faces.next;
      volume : g.R.Heights.leveled l.rows ≡ v;
      kept : g.R.MeshRows.kept l.rows ≡ g.R.MeshRows.kept l.fn.rows;
      least : g.R.MeshRows.spent l.fn.rows ≤ g.R.MeshRows.spent l.rows;
      most : g.R.MeshRows.spent l.rows ≤ g.R.MeshRows.spent l.fn.rows + cost_before v.grid (g.R.MeshRows.row_cost (g.R.MeshRows.kept l.fn.rows)) l._row;
    }
