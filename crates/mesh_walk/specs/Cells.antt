-- A row of cells as the code holds it.
use Rattle.std.specs.Prelude.{◌≡◌, ℕ, ◌+◌, ◌<◌, ◌≤◌, length, take}
use Rattle.flat_mesh.specs.Lattice.{Leveled}
use Rattle.flat_mesh.specs.Rows.{row_start}
use Rattle.mesh_rows.specs.Rows.{AreActive}
use Rattle.mesh_walk.specs.declared.cells.RowCells.{RowCells}

-- it is in the grid, and lists its active cells with their cases
pub record AreCells (v : Leveled) (cells : RowCells) : Type 0 where
  pub y : cells.y + 1 < v.grid.ny
  pub z : cells.z + 1 < v.grid.nz
  pub start : cells.start ≡ row_start v.grid cells.y cells.z
  pub room : cells.count ≤ length cells.places
  pub cells_are : AreActive v cells.y cells.z (take cells.count cells.places) (take cells.count cells.cases)

-- the index of its first point
abbrev pub cells_start : Leveled → RowCells → ℕ
cells_start v cells = row_start v.grid cells.y cells.z
