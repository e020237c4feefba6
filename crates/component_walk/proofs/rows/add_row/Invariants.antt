use Rattle.std.proofs.Common.{◌+◌, ◌-◌, ◌*◌, min}
use Rattle.flat_mesh.specs.Rows.{row_start}
use Rattle.component_walk.specs.Walks.{IsWalked, loops_before}
use Rattle.component_walk.proofs.rows.add_row.Given as goal

abbrev pub invariant-loop-x : goal.invariant-loop-x
invariant-loop-x g l =
    IsWalked g.T.Tally.value g.T.Tally.fits g.T.Tally.of_loop l.field (l.active.y + l.field.grid.ny * l.active.z) (loops_before l.field (row_start l.field.grid l.active.y l.active.z + min (8 * l.x) (l.field.grid.nx - 1)))
    l.walked.labels l.walked.tallies.items l.walked.edges

abbrev pub decreases-loop-x : goal.decreases-loop-x
decreases-loop-x g l = l.count - l.x
