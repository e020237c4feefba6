-- The slots of the corners of the triangles of a row of cells, and of its centres, one cell after the other.
use Rattle.std.specs.Prelude.{◌≡◌, ℕ, ◌+◌, ◌*◌, ◌%◌, ◌/◌, ◌<◌, ◌≤◌, List, [], length, map, slice_index, slice_index_or, take}
use Rattle.std.specs.List.{flat_map}
use Rattle.iso_defs.specs.Lists.{below}
use Rattle.cell_loops.specs.Loops.{row_centres}
use Rattle.case_faces.specs.Faces.{all_corners, case_corners}
use Rattle.mesh_walk.specs.Slots.{corner_slot}
use Rattle.mesh_walk.specs.declared.cells.RowCells.{RowCells}

-- the cells are of the longest row, and have cases
pub record AreLow (cells : RowCells) : Type 0 where
  pub few : cells.count ≤ 1025
  pub places : (k : ℕ) → k < cells.count → slice_index cells.places k < 1025
  pub cases : (k : ℕ) → k < cells.count → slice_index cells.cases k < 656

-- a table begins with the slots of the corners of the triangles of all cases, for the first cell of a row
abbrev pub HasCorners : ℕ → ℕ → List ℕ → Type 0
HasCorners y z table = take 13272 table ≡ map (corner_slot y z) all_corners

-- four tables have those for rows that are even or odd along y and along z
pub record HaveCorners (tables : List (List ℕ)) : Type 0 where
  pub each : (s : ℕ) → s < 4 → HasCorners (s % 2) (s / 2) (slice_index_or tables s [])

-- the slots of the corners of the triangles of the cell listed at a place
abbrev pub cell_corner_slots : RowCells → ℕ → List ℕ
cell_corner_slots cells k = map (λ c. corner_slot cells.y cells.z c + 3 * slice_index cells.places k) (case_corners (slice_index cells.cases k))

-- those of the first cells that are listed
unfoldable pub corner_slots_to : RowCells → ℕ → List ℕ
corner_slots_to cells n = flat_map (cell_corner_slots cells) (below n)

-- the slots of the centres of the cell listed at a place, less the first slot of centres
abbrev pub cell_centre_slots : RowCells → ℕ → List ℕ
cell_centre_slots cells k = map (λ i. 3 * slice_index cells.places k + i) (below (length (row_centres (slice_index cells.cases k))))

-- those of the first cells that are listed
unfoldable pub centre_slots_to : RowCells → ℕ → List ℕ
centre_slots_to cells n = flat_map (cell_centre_slots cells) (below n)
