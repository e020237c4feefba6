use Rattle.std.proofs.Common.{◌≡◌, ℕ, ◌+◌, ◌*◌, ◌<◌, ◌≤◌, get_or, length}
use Rattle.iso_defs.specs.Rows.{row_count}
use Rattle.mesh_walk.specs.Numbers.{edges_to}
use Rattle.mesh_walk.proofs.RankedRows.{HasCome}
use Rattle.mesh_walk.proofs.ranks.rank_rows.Given as goal

abbrev pub invariant-loop-row : goal.invariant-loop-row
invariant-loop-row g l =
    let v = g.R.Heights.leveled l.fn.rows in
    record {
      come : HasCome v l._row l.place;
      grid : l.ranks.grid ≡ v.grid;
      rows : length l.ranks.numbers ≡ row_count v.grid;
      total : l.total ≡ edges_to v (v.grid.nx * l._row);
      sums : (k : ℕ) → k < l._row → edges_to v (v.grid.nx * (k + 1)) ≡ edges_to v (v.grid.nx * k) + get_or l.ranks.numbers k 0;
      few : (k : ℕ) → k < l._row → get_or l.ranks.numbers k 0 ≤ 3 * v.grid.nx;
      volume : g.R.Heights.leveled l.rows ≡ v;
      kept : g.R.MeshRows.kept l.rows ≡ g.R.MeshRows.kept l.fn.rows;
      spent : g.R.MeshRows.spent l.rows ≡ g.R.MeshRows.spent l.fn.rows;
    }
