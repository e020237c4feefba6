use Rattle.std.proofs.Common.{◌≡◌, ◌-◌, ◌+◌, ◌*◌, [], get_or}
use Rattle.cell_loops.specs.Loops.{row_loops}
use Rattle.flat_mesh.specs.Rows.{row_start}
use Rattle.component_walk.specs.Walks.{IsWalked, loops_before}
use Rattle.row_bits.proofs.UnsetBits.{IsTold}
use Rattle.component_walk.proofs.cells.add_cells.Given as goal

abbrev pub invariant-loop-bits : goal.invariant-loop-bits
invariant-loop-bits g l =
    let v = g.H.Heights.leveled l.field in
    record {
      walked : IsWalked g.T.Tally.value g.T.Tally.fits g.T.Tally.of_loop v (l.row.y + v.grid.ny * l.row.z) (loops_before v (row_start v.grid l.row.y l.row.z + (l.from + l.next))) l.walked.labels l.walked.tallies.items l.walked.edges;
      told : IsTold (λ k. row_loops (get_or l.row.cases.now (l.from + k) 0) ≡ []) (l.end - l.from) l.next l.bits;
    }

abbrev pub decreases-loop-bits : goal.decreases-loop-bits
decreases-loop-bits g l = l.bits
