use Rattle.std.proofs.Common.{◌≡◌, ◌+◌, ◌*◌, ◌≤◌}
use Rattle.flat_mesh.specs.Rows.{row_start}
use Rattle.component_walk.specs.Asked.{asked_below}
use Rattle.component_walk.specs.Rows.{IsAt}
use Rattle.component_walk.proofs.rows.walk.Given as goal

abbrev pub invariant-loop-z : goal.invariant-loop-z
invariant-loop-z g l =
    let v = l.initial.walk.field in
    record {
      same : g.R.CellRows.named l.rows ≡ g.R.CellRows.named l.initial.rows;
      least : l.initial.steps ≤ l.steps;
      most : l.steps ≤ l.initial.steps + 8 * asked_below v (g.R.CellRows.named l.initial.rows) l.z;
      at : IsAt g.T.Tally.value g.T.Tally.fits g.T.Tally.of_loop v (v.grid.ny * l.z) (row_start v.grid 0 l.z) l.walk;
    }
