-- A row of points and its crossing edges, as the code holds them.
use Rattle.std.specs.Prelude.{◌≡◌, ◌*◌, ◌<◌, ◌≤◌, length, take}
use Rattle.flat_mesh.specs.Lattice.{Leveled}
use Rattle.mesh_rows.specs.Rows.{AreEdges, row_places}
use Rattle.mesh_walk.specs.declared.edges.RowEdges.{RowEdges}

-- a row of the grid, its crossing edges, and where they are crossed
pub record AreRowEdges (v : Leveled) (row : RowEdges) : Type 0 where
  pub y : row.texts.y < v.grid.ny
  pub z : row.texts.z < v.grid.nz
  pub width : row.texts.count ≡ v.grid.nx
  pub count : row.count ≤ 3 * v.grid.nx
  pub room : row.count ≤ length row.edges
  pub edges : AreEdges v row.texts.y row.texts.z (take row.count row.edges)
  pub places : take row.count row.places ≡ row_places v row.texts.y row.texts.z
