-- Lists of triangles as the code holds them.
use Rattle.std.specs.Prelude.{ℕ, ◌<◌, List, map, slice_index}
use Rattle.std.specs.List.{All}
use Rattle.iso_defs.specs.Cell.{Triangle}

-- a triangle of the code, which is a list of three numbers
abbrev pub triangle_of : List ℕ → Triangle
triangle_of t = (slice_index t 0, slice_index t 1, slice_index t 2)

-- and a list of them
abbrev pub triangles_of : List (List ℕ) → List Triangle
triangles_of ts = map triangle_of ts

-- the corners of a triangle are below the number
abbrev pub IsBelow : ℕ → Triangle → Type 0
IsBelow n t = (t.0 < n) × (t.1 < n) × (t.2 < n)

-- a list of triangles over so many vertices
pub record Mesh : Type 0 where
  pub vertex_count : ℕ
  pub triangles : List (List ℕ)

-- each corner is one of the vertices
abbrev pub IsMesh : Mesh → Type 0
IsMesh m = All (λ t. IsBelow m.vertex_count (triangle_of t)) m.triangles
