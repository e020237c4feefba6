use Rattle.std.proofs.Common.{◌+◌, ◌*◌, ◌++◌, take}
use Rattle.flat_mesh.specs.Lattice.{heights}
use Rattle.part_laws.specs.Loops.{loops_in}
use Rattle.component_walk.specs.Walks.{IsWalked, loops_before}
use Rattle.component_walk.proofs.cells.add_cell.Given as goal

abbrev pub invariant-loop-turn : goal.invariant-loop-turn
invariant-loop-turn g l =
    let v = g.H.Heights.leveled l.field in
    IsWalked g.T.Tally.value g.T.Tally.fits g.T.Tally.of_loop v (l.cell.low.y + v.grid.ny * l.cell.low.z) (loops_before v l.cell.index ++ take l.turn (loops_in v.grid (heights v) l.cell.index))
    l.walked.labels l.walked.tallies.items l.walked.edges
