-- The text of vertices on lattice edges.
use Rattle.std.specs.Prelude.{ℕ, ◌++◌, List, [], ◌∷◌, false, map, ℤ}
use Rattle.std.specs.List.{flat_map}
use Rattle.iso_defs.specs.Grid.{Grid}
use Rattle.iso_defs.specs.Place.{Position, edge_position}
use Rattle.iso_defs.specs.Scratch.{crossing_edges}
use Rattle.iso_defs.specs.Texts.{line, position_text}
use Rattle.crossing_edges.specs.Flags.{names_in}
use Rattle.mesh_lines.specs.Lines.{vertex_line}
use Rattle.mesh_lines.specs.RowLines.{RowPlace, edge_at}

-- the vertices on the crossing edges, each with its name and its position
abbrev pub edge_points : Grid → (ℕ → ℤ) → List (ℕ × Position)
edge_points g s = map (λ n. (n, edge_position g s n)) (crossing_edges g s)

-- the lines of those on the crossing edges among n names from a on
unfoldable pub lines_in : Grid → (ℕ → ℤ) → ℕ → ℕ → List ℕ
lines_in g s a n = flat_map (λ n. line (position_text false (edge_position g s n))) (names_in g s a n)

-- the line of the vertex on an edge of a row, by the edge's offset and its place
abbrev pub row_line : RowPlace → ℕ → ℕ → List ℕ
row_line row e d = vertex_line row.style (0, edge_at row e d)

-- the lines of the vertices on edges of a row, each at its place
abbrev pub row_lines : RowPlace → List ℕ → List ℕ → List ℕ
row_lines row [] places = []
row_lines row (e ∷ edges) [] = []
row_lines row (e ∷ edges) (d ∷ places) = row_line row e d ++ row_lines row edges places
