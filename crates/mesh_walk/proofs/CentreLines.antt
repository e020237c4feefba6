-- The lines of the centres of cells.
use Rattle.std.proofs.Common.{◌≡◌, ℕ, ◌+◌, ◌*◌, ◌<◌, true, List, [], All, map, length, refl, ap, arith}
use Rattle.std.specs.List.{flat_map}
use Rattle.iso_defs.specs.Grid.{is_cell}
use Rattle.iso_defs.specs.Cell.{cell_edge}
use Rattle.iso_defs.specs.Place.{centre_position}
use Rattle.iso_defs.specs.Scratch.{centre_name}
use Rattle.iso_base.specs.Triangles.{triangle_of}
use Rattle.flat_mesh.specs.declared.centres.Cell.{Cell}
use Rattle.flat_mesh.specs.declared.centres.LoopCentre.{LoopCentre}
use Rattle.flat_mesh.specs.Centres.{IsCellAt, cell_place, local_mean}
use Rattle.flat_mesh.specs.Lattice.{Leveled, heights}
use Rattle.flat_mesh.specs.Rows.{row_start}
use Rattle.flat_mesh.proofs.CellAdds.{no_centres}
use Rattle.flat_mesh.proofs.CellPlaces.{cell_placed}
use Rattle.flat_mesh.proofs.CentrePlaces.{centre_is}
use Rattle.mesh_lines.specs.declared.style.Style.{Style}
use Rattle.mesh_lines.specs.Lines.{vertex_line}
use Rattle.mesh_walk.specs.declared.cells.RowCells.{RowCells}
use Rattle.mesh_walk.specs.Cells.{AreCells}
use Rattle.mesh_walk.specs.Numbers.{AreQuiet}
use Rattle.mesh_walk.specs.Spans.{centre_lines, centres_text}
use Rattle.mesh_rows.proofs.SpanLaws.{span_quiet}

-- a run of cells without loops
pub quiet_centres : (style : Style) (v : Leveled) (a n : ℕ) → AreQuiet v a n → centres_text style v a n ≡ []
unfolding centre_lines
quiet_centres style v a n quiet =
    span_quiet (centre_lines style v) (is_cell v.grid) a n (λ q least most is. ap (flat_map (vertex_line style)) (no_centres v q (quiet.none q least most is)))

-- where the centre of a loop is
pub centre_at : (v : Leveled) (cell : Cell) (h : IsCellAt v.grid cell) (style : Style) (n x y z : ℕ) (l : List ℕ) → 0 < length l → All (λ e. e < 12) l
    → x ≡ local_mean (cell_place v cell.index) 0 l → y ≡ local_mean (cell_place v cell.index) 1 l → z ≡ local_mean (cell_place v cell.index) 2 l
    → vertex_line style (n, (1000 * cell.low.x + x, 1000 * cell.low.y + y, 1000 * cell.low.z + z)) ≡ vertex_line style (n, centre_position v.grid (heights v) (map (cell_edge v.grid cell.index) l))
centre_at v cell h style n x y z l some all ex ey ez =
    ap (λ (c : LoopCentre). vertex_line style (n, triangle_of c.at)) (centre_is v cell h 0 (centre_name v.grid cell.index 0) x y z l some all refl ex ey ez)

-- a place in a row of cells is that of a cell
pub tested_at : (v : Leveled) (cells : RowCells) → AreCells v cells → (x : ℕ) → x + 1 < v.grid.nx → is_cell v.grid (row_start v.grid cells.y cells.z + x) ≡ true
tested_at v cells are x low =
    let cell : Cell = record { index = row_start v.grid cells.y cells.z + x; low = record { x = x; y = cells.y; z = cells.z } } in
    (cell_placed v.grid cell (record { index = omega arith; x = low; y = are.y; z = are.z })).tested
