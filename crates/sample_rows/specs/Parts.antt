-- Rows of points as they are kept: each as numbers of its points, or as its crossing edges and its active cells.
use Rattle.std.specs.Prelude.{◌≡◌, ℕ, ◌+◌, ◌*◌, ◌/◌, ◌%◌, ◌<◌, ◌≤◌, true, false, List, length, take, drop, slice_index, slice_index_or}
use Rattle.iso_defs.specs.Grid.{index}
use Rattle.iso_defs.specs.Rows.{row_count}
use Rattle.crossing_edges.specs.Flags.{flags_at}
use Rattle.flat_mesh.specs.Lattice.{Leveled, heights}
use Rattle.flat_mesh.specs.Rows.{row_start}
use Rattle.mesh_rows.specs.Rows.{AreActive, AreEdges, IsCaseOf}
use Rattle.sample_rows.specs.declared.parts.RowPart.{RowPart}
use Rattle.sample_rows.specs.declared.parts.RowParts.{RowParts}

-- the number of a point: its flags, and eight times the number of a case that has the loops of the cell that begins at it. No cell
-- begins at the last point of a row, and its number is as if it were the case 0
pub record IsNumberOf (v : Leveled) (x y z number : ℕ) : Type 0 where
  pub flags : number % 8 ≡ flags_at v.grid (heights v) (row_start v.grid y z + x)
  pub cell : x + 1 < v.grid.nx → y + 1 < v.grid.ny → z + 1 < v.grid.nz
      → IsCaseOf v (index v.grid x y z) (number / 8)
  pub last : x + 1 ≡ v.grid.nx → number / 8 ≡ 0

-- the numbers of the points of a row
pub record AreNumbers (v : Leveled) (y z : ℕ) (numbers : List ℕ) : Type 0 where
  pub count : length numbers ≡ v.grid.nx
  pub each : (x : ℕ) → x < v.grid.nx → IsNumberOf v x y z (slice_index numbers x)

-- the active cells of a row, if it begins any: how far each is along x, and its case
pub record AreCells (v : Leveled) (y z : ℕ) (places cases : List ℕ) : Type 0 where
  pub same : length cases ≡ length places
  pub few : length places < v.grid.nx
  pub active : y + 1 < v.grid.ny → z + 1 < v.grid.nz → AreActive v y z places cases

-- the parts of the list in which a row is kept
abbrev pub part_edges : List ℕ → RowPart → List ℕ
part_edges list part = take part.edges (drop part.start list)

abbrev pub part_places : List ℕ → RowPart → List ℕ
part_places list part = take part.cells (drop (part.start + part.edges) list)

abbrev pub part_cases : List ℕ → RowPart → List ℕ
part_cases list part = take part.cells (drop (part.start + part.edges + part.cells) list)

-- a row is kept whole, or as what it has
pub record IsKeptRow (v : Leveled) (y z : ℕ) (list : List ℕ) (part : RowPart) : Type 0 where
  pub whole_fits : part.is_whole ≡ true → part.start + v.grid.nx ≤ length list
  pub numbers : part.is_whole ≡ true → AreNumbers v y z (take v.grid.nx (drop part.start list))
  pub few_fit : part.is_whole ≡ false → part.start + part.edges + 2 * part.cells ≤ length list
  pub edges : part.is_whole ≡ false → AreEdges v y z (part_edges list part)
  pub cells : part.is_whole ≡ false → AreCells v y z (part_places list part) (part_cases list part)

-- where a row is kept. Behind the last row stands what no row is read by
abbrev pub part_at : RowParts → ℕ → RowPart
part_at rows row = slice_index_or rows.parts.items row (record { start = 0; edges = 0; cells = 0; is_whole = false })

-- the first rows are kept, in no more room than five numbers for each point
pub record HaveRows (v : Leveled) (n : ℕ) (rows : RowParts) : Type 0 where
  pub count : length rows.parts.items ≡ n
  pub room : length rows.list.items ≤ 5 * (v.grid.nx * n)
  pub each : (y z : ℕ) → y < v.grid.ny → z < v.grid.nz → y + v.grid.ny * z < n
      → IsKeptRow v y z rows.list.items (part_at rows (y + v.grid.ny * z))

-- and all
abbrev pub HaveAllRows : Leveled → RowParts → Type 0
HaveAllRows v rows = HaveRows v (row_count v.grid) rows
