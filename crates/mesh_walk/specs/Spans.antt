-- The lines that the points or the cells of a run of numbers give, one after the other.
use Rattle.std.specs.Prelude.{◌≡◌, ℕ, List, ◌+◌, ◌-◌, ◌*◌, ◌++◌, map, nat_lt, if◌then◌else◌}
use Rattle.std.specs.List.{flat_map}
use Rattle.iso_defs.specs.Rows.{row_count}
use Rattle.iso_defs.specs.Grid.{is_cell, is_crossing}
use Rattle.iso_defs.specs.Cell.{Triangle, cell_edge}
use Rattle.iso_defs.specs.Place.{centre_position, edge_position}
use Rattle.iso_defs.specs.Scratch.{cell_centres, on_corners}
use Rattle.iso_base.specs.Triangles.{triangle_of}
use Rattle.iso_base.specs.declared.format.MeshFormat.{MeshFormat}
use Rattle.crossing_edges.specs.Flags.{rank}
use Rattle.flat_mesh.specs.Found.{numbered}
use Rattle.flat_mesh.specs.Lattice.{Leveled, heights}
use Rattle.mesh_lines.specs.Lines.{face_line, middle_of, vertex_line}
use Rattle.mesh_lines.specs.declared.style.Style.{Style}
use Rattle.mesh_rows.specs.Counts.{span}
use Rattle.mesh_walk.specs.declared.walk.Numbering.{Numbering}

-- the line of the vertex on a crossing edge
abbrev pub edge_line : Style → Leveled → ℕ → List ℕ
edge_line style v n = vertex_line style (n, edge_position v.grid (heights v) n)

-- the line of the centre of a loop of a cell, under any name
abbrev pub centre_line : Style → Leveled → ℕ → List ℕ → ℕ → List ℕ
centre_line style v q edges n = vertex_line style (
  n,
  centre_position v.grid (heights v) (map (cell_edge v.grid q) edges),
)

-- the lines of the centres of a cell
unfoldable pub centre_lines : Style → Leveled → ℕ → List ℕ
centre_lines style v q = flat_map (vertex_line style) (cell_centres v.grid (heights v) q)

-- how many crossing edges there are
abbrev pub edge_count : Leveled → ℕ
edge_count v = rank v.grid (heights v) (3 * (v.grid.nx * row_count v.grid))

-- the number that vertex n of the mesh gets, where so many vertices lie on edges: these are counted from one number on, and
-- the centres behind them from another
abbrev pub renumbered : Numbering → ℕ → ℕ → ℕ
renumbered numbers edges n = if nat_lt n edges then numbers.first_edge + n else numbers.first_centre + (n - edges)

-- the numbers of a mesh that is written by itself: they stay
abbrev pub own_numbers : Leveled → Numbering
own_numbers v = record { first_edge = 0; first_centre = edge_count v }

-- all slices are written, with these numbers
pub record IsWhole (v : Leveled) (slices : ℕ) (numbers : Numbering) : Type 0 where
  pub slices_are : slices ≡ v.grid.nz
  pub numbers_are : numbers ≡ own_numbers v

-- the triangles of a cell by these numbers
abbrev pub numbered_from : Numbering → Leveled → ℕ → List Triangle
numbered_from numbers v q = map (on_corners (renumbered numbers (edge_count v))) (numbered v q)

-- the lines of the triangles of a cell
unfoldable pub triangle_lines : MeshFormat → Numbering → Leveled → ℕ → List ℕ
triangle_lines format numbers v q = flat_map (face_line format) (numbered_from numbers v q)

-- those of the vertices on the crossing edges among n names from a on
abbrev pub edges_text : Style → Leveled → ℕ → ℕ → List ℕ
edges_text style v a n = span (edge_line style v) (is_crossing v.grid (heights v)) a n

-- those of the centres of the cells among n points from a on
abbrev pub centres_text : Style → Leveled → ℕ → ℕ → List ℕ
centres_text style v a n = span (centre_lines style v) (is_cell v.grid) a n

-- and those of their triangles
abbrev pub faces_text : MeshFormat → Numbering → Leveled → ℕ → ℕ → List ℕ
faces_text format numbers v a n = span (triangle_lines format numbers v) (is_cell v.grid) a n

-- how many points the lowest slices have
abbrev pub points_to : Leveled → ℕ → ℕ
points_to v slices = v.grid.nx * (v.grid.ny * slices)

-- the lines of the vertices on the edges that begin in a row of points, and in the lowest slices
abbrev pub row_edges_text : Style → Leveled → ℕ → List ℕ
row_edges_text style v row = edges_text style v (3 * (v.grid.nx * row)) (3 * v.grid.nx)

abbrev pub owned_edges_text : Style → Leveled → ℕ → List ℕ
owned_edges_text style v slices = edges_text style v 0 (3 * points_to v slices)

-- those of the centres of a row of cells, and of the cells whose lowest point lies in the lowest slices
abbrev pub row_centres_text : Style → Leveled → ℕ → List ℕ
row_centres_text style v row = centres_text style v (v.grid.nx * row) v.grid.nx

abbrev pub owned_centres_text : Style → Leveled → ℕ → List ℕ
owned_centres_text style v slices = centres_text style v 0 (points_to v slices)

-- and those of their triangles
abbrev pub row_faces_text : MeshFormat → Numbering → Leveled → ℕ → List ℕ
row_faces_text format numbers v row = faces_text format numbers v (v.grid.nx * row) v.grid.nx

abbrev pub owned_faces_text : MeshFormat → Numbering → Leveled → ℕ → List ℕ
owned_faces_text format numbers v slices = faces_text format numbers v 0 (points_to v slices)

-- the lines of triangles as the code has them
unfoldable pub face_lines : MeshFormat → List (List ℕ) → List ℕ
face_lines format faces = flat_map (λ t. face_line format (triangle_of t)) faces

-- the lines of all vertices, what stands behind them, and the lines of all triangles, so many as there are
abbrev pub lines_text : Style → Leveled → ℕ → List ℕ
lines_text style v faces = owned_edges_text style v v.grid.nz ++ (owned_centres_text style v v.grid.nz
    ++ (middle_of style.format faces ++ owned_faces_text style.format (own_numbers v) v v.grid.nz))
