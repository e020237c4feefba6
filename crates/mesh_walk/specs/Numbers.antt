-- The numbers of crossing edges, row by row.
use Rattle.std.specs.Prelude.{◌≡◌, ℕ, ◌+◌, ◌*◌, ◌^◌, ◌/◌, ◌%◌, ◌<◌, ◌≤◌, ◌&&◌, Bool, true, nat_lt, if◌then◌else◌, [], slice_index}
use Rattle.std.specs.List.{sum_by}
use Rattle.iso_defs.specs.Lists.{below}
use Rattle.iso_defs.specs.Grid.{Grid, is_cell}
use Rattle.iso_defs.specs.Rows.{row_count}
use Rattle.crossing_edges.specs.Flags.{rank}
use Rattle.edge_points.specs.Rows.{RowNumbers}
use Rattle.flat_mesh.specs.Faces.{loops_at}
use Rattle.flat_mesh.specs.Lattice.{Leveled, heights}
use Rattle.mesh_rows.specs.Counts.{centres_among}
use Rattle.mesh_walk.specs.Spans.{edge_count}
use Rattle.mesh_walk.specs.declared.ranks.RowPlace.{RowPlace}
use Rattle.mesh_walk.specs.declared.walk.Numbering.{Numbering}

-- the number of a row of points, by its coordinates
abbrev pub row_number : Grid → RowPlace → ℕ
row_number g row = row.y + g.ny * row.z

-- how many crossing edges begin at points before one
abbrev pub edges_to : Leveled → ℕ → ℕ
edges_to v q = rank v.grid (heights v) (3 * q)

-- for each row how many crossing edges begin in earlier rows, and how many there are in all
pub record AreRowRanks (v : Leveled) (ranks : RowNumbers) (total : ℕ) : Type 0 where
  pub grid : ranks.grid ≡ v.grid
  pub before : (r : ℕ) → r < row_count v.grid → slice_index ranks.numbers r ≡ edges_to v (v.grid.nx * r)
  pub all : total ≡ edge_count v

-- the cells among n points from a on have no loops
pub record AreQuiet (v : Leveled) (a n : ℕ) : Type 0 where
  pub none : (q : ℕ) → a ≤ q → q < a + n → is_cell v.grid q ≡ true → loops_at v q ≡ []

-- row r of points begins a row of cells
abbrev pub begins_cells : Grid → ℕ → Bool
begins_cells g r = nat_lt (r % g.ny + 1) g.ny && nat_lt (r / g.ny + 1) g.nz

-- what it costs to ask for the row of cells that a row of points begins
abbrev pub cost_of_row : Grid → (ℕ → ℕ) → ℕ → ℕ
cost_of_row g cost r = if begins_cells g r then cost r else 0

-- and for those of the rows before one
unfoldable pub cost_before : Grid → (ℕ → ℕ) → ℕ → ℕ
cost_before g cost r = sum_by (cost_of_row g cost) (below r)

-- and for all of them
abbrev pub cells_cost : Leveled → (ℕ → ℕ) → ℕ
cells_cost v cost = cost_before v.grid cost (row_count v.grid)

-- the number of the first centre of the cells from a point on, where centres are counted from a number on
pub record HasNumber (first : ℕ) (v : Leveled) (q next : ℕ) : Type 0 where
  pub number : next ≡ first + centres_among v 0 q
  pub few : next ≤ first + 4 * q

-- first numbers behind which there is room for those of all vertices
pub record AreFirst (numbers : Numbering) : Type 0 where
  pub edge : numbers.first_edge < 2 ^ 31
  pub centre : numbers.first_centre < 2 ^ 31
