use Rattle.std.proofs.Common.{◌≡◌, ◌+◌, ◌*◌, ◌≤◌, Ok}
use Rattle.mesh_lines.specs.Blocks.{Adds}
use Rattle.mesh_walk.specs.Numbers.{cost_before}
use Rattle.mesh_walk.specs.Places.{due_to, in_slot}
use Rattle.mesh_walk.specs.Slots.{IsReady}
use Rattle.mesh_walk.specs.Spans.{centres_text}
use Rattle.mesh_walk.proofs.RankedRows.{HasCome}
use Rattle.mesh_walk.proofs.centres.write_centres.Given as goal

abbrev pub invariant-loop-row : goal.invariant-loop-row
invariant-loop-row g l =
    let v = g.R.Heights.leveled l.fn.rows in
    record {
      come : HasCome v l._row l.place;
      adds : Adds {T = Unit {0}} (g.K.Sink.seen l.fn.sink) (g.K.Sink.seen l.sink) l.fn.block l.block (Ok tt) (centres_text l.walk.style v 0 (v.grid.nx * l._row));
      bytes : l.block.total ≤ l.fn.block.total + 256 * (v.grid.nx * l._row);
      style : l.centres.texts.style ≡ l.walk.style;
      width : l.centres.texts.count ≡ v.grid.nx;
      ready : IsReady (in_slot l.centres.places.slots.places) (due_to v) v l.centres.places.next;
      volume : g.R.Heights.leveled l.rows ≡ v;
      kept : g.R.MeshRows.kept l.rows ≡ g.R.MeshRows.kept l.fn.rows;
      least : g.R.MeshRows.spent l.fn.rows ≤ g.R.MeshRows.spent l.rows;
      most : g.R.MeshRows.spent l.rows ≤ g.R.MeshRows.spent l.fn.rows + cost_before v.grid (g.R.MeshRows.row_cost (g.R.MeshRows.kept l.fn.rows)) l._row;
    }
