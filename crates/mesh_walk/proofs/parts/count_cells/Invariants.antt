use Rattle.std.proofs.Common.{◌≡◌, ◌+◌, ◌*◌, ◌≤◌}
use Rattle.mesh_rows.specs.Counts.{AreCounts}
use Rattle.mesh_walk.specs.Numbers.{cost_before}
use Rattle.mesh_walk.proofs.RankedRows.{HasCome}
use Rattle.mesh_walk.proofs.parts.count_cells.Given as goal

abbrev pub invariant-loop-row : goal.invariant-loop-row
invariant-loop-row g l =
    let v = g.R.Heights.leveled l.fn.rows in
    record {
      come : HasCome v l._row l.place;
      counts : AreCounts v (v.grid.nx * l._row) l.counts;
      volume : g.R.Heights.leveled l.rows ≡ v;
      kept : g.R.MeshRows.kept l.rows ≡ g.R.MeshRows.kept l.fn.rows;
      least : g.R.MeshRows.spent l.fn.rows ≤ g.R.MeshRows.spent l.rows;
      most : g.R.MeshRows.spent l.rows ≤ g.R.MeshRows.spent l.fn.rows + cost_before v.grid (g.R.MeshRows.row_cost (g.R.MeshRows.kept l.fn.rows)) l._row;
    }
