-- What is counted of the rows of points of a volume at a level, of which nothing is kept.
use Rattle.std.specs.Prelude.{◌≡◌, ℕ, ◌*◌, ◌≤◌, length}
use Rattle.iso_defs.specs.Grid.{Grid}
use Rattle.crossing_edges.specs.Flags.{rank}
use Rattle.flat_mesh.specs.Lattice.{Leveled, heights}
use Rattle.mesh_rows.specs.Counts.{AreCounts}
use Rattle.sample_rows.specs.declared.slice_counts.SliceCounts.{SliceCounts}
use Rattle.sample_rows.specs.declared.slice_counts.CountBuffers.{CountBuffers}
use Rattle.sample_rows.specs.Cases.{HaveRoom}

-- how many crossing edges begin in the first rows of points, and how many centres and triangles the cells have that begin in them
pub record AreRowCounts (v : Leveled) (rows : ℕ) (counts : SliceCounts) : Type 0 where
  pub edges : counts.edges ≡ rank v.grid (heights v) (3 * (v.grid.nx * rows))
  pub few_edges : counts.edges ≤ 3 * (v.grid.nx * rows)
  pub cells : AreCounts v (v.grid.nx * rows) counts.cells

-- room for a row of points
pub record HaveCountRoom (g : Grid) (row : CountBuffers) : Type 0 where
  pub flags : length row.flags.items ≡ g.nx
  pub bytes : HaveRoom g row.cells.bytes.items
  pub cases : length row.cells.cases.items ≡ g.nx
