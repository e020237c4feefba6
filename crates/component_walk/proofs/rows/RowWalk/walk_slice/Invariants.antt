use Rattle.std.proofs.Common.{◌≡◌, ◌+◌, ◌*◌, ◌≤◌}
use Rattle.flat_mesh.specs.Rows.{row_start}
use Rattle.component_walk.specs.Asked.{asked_before}
use Rattle.component_walk.specs.Rows.{IsAt}
use Rattle.component_walk.proofs.rows.RowWalk.walk_slice.Given as goal

abbrev pub invariant-loop-y : goal.invariant-loop-y
invariant-loop-y g l =
    let v = l.initial.self.field in
    record {
      same : g.R.CellRows.named l.rows ≡ g.R.CellRows.named l.initial.rows;
      least : l.initial.steps ≤ l.steps;
      most : l.steps ≤ l.initial.steps + 8 * asked_before v (g.R.CellRows.named l.initial.rows) l.z l.y;
      at : IsAt g.T.Tally.value g.T.Tally.fits g.T.Tally.of_loop v (l.y + v.grid.ny * l.z) (row_start v.grid l.y l.z) l.self;
    }
