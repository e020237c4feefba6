-- The triangles of a case by its number.
use Rattle.std.specs.Prelude.{ℕ, ◌+◌, ◌-◌, List, nat_lt, if◌then◌else◌, slice_index}
use Rattle.std.specs.List.{concat, flat_map}
use Rattle.iso_defs.specs.Lists.{below}
use Rattle.cell_loops.specs.Loops.{row_loops}
use Rattle.flat_mesh.specs.Faces.{cell_faces}

-- its triangles. A corner is one of the twelve edges of the cell, or from 12 on a centre, counted from the first
unfoldable pub row_faces : ℕ → List (List ℕ)
row_faces n = cell_faces (below 12) (row_loops n) 12

-- their corners, one after the other
unfoldable pub case_corners : ℕ → List ℕ
case_corners n = concat (row_faces n)

-- those of the cases before one, and of all cases
unfoldable pub corners_to : ℕ → List ℕ
corners_to n = flat_map case_corners (below n)

abbrev pub all_corners : List ℕ
all_corners = corners_to 656

-- the number of the vertex at a corner, from the numbers of the edges and that of the first centre
abbrev pub corner_number : List ℕ → ℕ → ℕ → ℕ
corner_number numbers first c = if nat_lt c 12 then slice_index numbers c else first + (c - 12)
