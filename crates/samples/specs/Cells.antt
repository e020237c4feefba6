-- Cells by their lowest points.
use Rattle.std.specs.Prelude.{◌+◌, ◌<◌}
use Rattle.iso_defs.specs.Grid.{Grid}
use Rattle.iso_base.specs.declared.point.Point.{Point}

-- the lowest point of a cell: there is a next one along each axis
pub record IsLowest (g : Grid) (p : Point) : Type 0 where
  pub x : p.x + 1 < g.nx
  pub y : p.y + 1 < g.ny
  pub z : p.z + 1 < g.nz
