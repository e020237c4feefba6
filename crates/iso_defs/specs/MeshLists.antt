-- A mesh as lists.
use Rattle.std.specs.Prelude.{ℕ, List}
use Rattle.iso_defs.specs.Grid.{Grid}
use Rattle.iso_defs.specs.Cell.{Triangle}
use Rattle.iso_defs.specs.Place.{Position}

-- a grid, vertices by name and position, and triangles by the numbers of their vertices
pub record FlatMesh : Type 0 where
  pub grid : Grid
  pub vertex_list : List (ℕ × Position)
  pub triangle_list : List Triangle
