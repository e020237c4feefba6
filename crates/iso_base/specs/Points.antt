-- Points by their coordinates, and lattice edges by a point and an axis, against indices and names.
use Rattle.std.specs.Prelude.{ℕ, ◌+◌, ◌/◌, ◌%◌, ◌<◌, ◌==◌, ◌&&◌, Bool, nat_lt, if◌then◌else◌}
use Rattle.iso_defs.specs.Grid.{Grid, point_count, coordinate, index, edge_name}
use Rattle.iso_base.specs.declared.point.Point.{Point}

-- a point of the grid
pub record IsPoint (g : Grid) (p : Point) : Type 0 where
  pub x : p.x < g.nx
  pub y : p.y < g.ny
  pub z : p.z < g.nz

-- whether a point lies in the grid
abbrev pub is_point : Grid → Point → Bool
is_point g p = nat_lt p.x g.nx && nat_lt p.y g.ny && nat_lt p.z g.nz

-- the place of a point in the list of samples
abbrev pub index_of : Grid → Point → ℕ
index_of g p = index g p.x p.y p.z

-- the point at a place in the list of samples
abbrev pub point_at : Grid → ℕ → Point
point_at g i = record { x = coordinate g 0 i; y = coordinate g 1 i; z = coordinate g 2 i }

-- the point one further along an axis: 0 is x, 1 is y, 2 is z
abbrev pub next_along : ℕ → Point → Point
next_along axis p = record {
  x = p.x + (if axis == 0 then 1 else 0);
  y = p.y + (if axis == 1 then 1 else 0);
  z = p.z + (if axis == 2 then 1 else 0);
}

-- a lattice edge: a point, an axis and the next point along it, both in the grid
pub record IsEdge (g : Grid) (p : Point) (axis : ℕ) : Type 0 where
  pub known : axis < 3
  pub lower : IsPoint g p
  pub upper : IsPoint g (next_along axis p)

-- the name of a lattice edge of the grid
pub record IsEdgeName (g : Grid) (name : ℕ) : Type 0 where
  pub index : name / 3 < point_count g
  pub edge : IsEdge g (point_at g (name / 3)) (name % 3)

-- the name of the edge from a point along an axis
abbrev pub name_of : Grid → Point → ℕ → ℕ
name_of g p axis = edge_name (index_of g p) axis
