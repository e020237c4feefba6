-- The loops with a centre of a row of cells.
use Rattle.std.specs.Prelude.{◌≡◌, ℕ, ◌-◌, ◌*◌, ◌<◌, ◌≤◌, List, All, map, length}
use Rattle.std.specs.List.{filter}
use Rattle.iso_defs.specs.Grid.{is_cell}
use Rattle.iso_defs.specs.Scratch.{cell_loops, has_centre}
use Rattle.case_faces.specs.Fans.{fan_numbers, fan_of}
use Rattle.flat_mesh.specs.Lattice.{Leveled, heights}
use Rattle.flat_mesh.specs.Rows.{row_start}
use Rattle.mesh_rows.specs.Counts.{span}
use Rattle.mesh_walk.specs.declared.centres.RowFan.{RowFan}

-- those of a cell, each behind how far the cell is from the first of its row
unfoldable pub cell_fans : Leveled → ℕ → ℕ → List (ℕ × List ℕ)
cell_fans v start q = map (λ (l : ℕ × List ℕ). (q - start, l.1)) (filter has_centre (cell_loops v.grid (heights v) q))

-- those of the cells among n points of a row
abbrev pub row_fans : Leveled → ℕ → ℕ → List (ℕ × List ℕ)
row_fans v start n = span (cell_fans v start) (is_cell v.grid) start n

-- a loop that is listed, and the one it stands for
abbrev pub seen : RowFan → ℕ × List ℕ
seen f = (f.x, fan_numbers f.fan)

abbrev pub by_numbers : ℕ × List ℕ → ℕ × List ℕ
by_numbers l = (l.0, fan_of l.1)

-- all loops with a centre of a row of cells are listed
pub record AreFans (v : Leveled) (y z : ℕ) (fans : List RowFan) : Type 0 where
  pub are : map seen fans ≡ map by_numbers (row_fans v (row_start v.grid y z) v.grid.nx)
  pub few : length fans ≤ 2 * v.grid.nx
  pub low : All (λ (f : RowFan). f.fan < 115) fans
