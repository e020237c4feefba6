-- What is kept of the rows of a volume at a level.
use Rattle.std.specs.Prelude.{◌≡◌, ℕ, ◌*◌, length}
use Rattle.iso_defs.specs.Grid.{Grid}
use Rattle.iso_defs.specs.Rows.{row_count}
use Rattle.flat_mesh.specs.Lattice.{Leveled}
use Rattle.mesh_rows.specs.Counts.{AreCounts}
use Rattle.sample_rows.specs.declared.row_storage.StoredRows.{StoredRows}
use Rattle.sample_rows.specs.declared.row_storage.RowBuffers.{RowBuffers}
use Rattle.sample_rows.specs.Cases.{HaveRoom}
use Rattle.sample_rows.specs.Parts.{HaveRows}
use Rattle.sample_rows.specs.Places.{HavePlaces}

-- what the first rows of points have, where their crossing edges are crossed, and how many centres and triangles the cells have that
-- begin in them
pub record AreKept (v : Leveled) (rows : ℕ) (kept : StoredRows) : Type 0 where
  pub rows_are : HaveRows v rows kept.rows
  pub counted : AreCounts v (v.grid.nx * rows) kept.counts
  pub places : HavePlaces v rows kept.places

-- those of all rows
abbrev pub AreAllKept : Leveled → StoredRows → Type 0
AreAllKept v kept = AreKept v (row_count v.grid) kept

-- room for a row of points
pub record HaveBuffers (g : Grid) (row : RowBuffers) : Type 0 where
  pub flags : length row.flags.items ≡ g.nx
  pub numbers : length row.numbers.items ≡ g.nx
  pub bytes : HaveRoom g row.cells.bytes.items
  pub cases : length row.cells.cases.items ≡ g.nx
  pub ends : length row.edges.ends.items ≡ 3 * g.nx
