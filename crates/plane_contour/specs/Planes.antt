-- One plane of a grid, and its lattice edges by coordinates.
use Rattle.std.specs.Prelude.{◌≡◌, ℕ, zero, suc, ◌+◌, ◌-◌, ◌*◌, ◌<◌, ℤ, pos, Bool, true, false, ◌||◌, ◌⊎◌, Option, Some, None, List, map, length, slice_index_or, All}
use Rattle.iso_defs.specs.Grid.{Grid, index, edge_name}
use Rattle.iso_defs.specs.Contours.{plane_pairs, line_from}
use Rattle.iso_defs.specs.Lists.{begins, ends, has_pair, is_in}
use Rattle.plane_contour.specs.Texts.{Point, point_at}
use Rattle.iso_base.specs.Volume.{IsSample, shifted, IsGrid}
use Rattle.plane_contour.specs.declared.plane.Plane.{Plane}
use Rattle.plane_contour.specs.declared.plane.Edge.{Edge}
use Rattle.plane_contour.specs.declared.plane.Side.{Side}
use Rattle.plane_laws.specs.Sides.{side, runs_along, slot_name}

-- the number of points of a plane
abbrev pub plane_size : Grid → ℕ
plane_size g = g.nx * g.ny

-- the shifted value of each point, where plane k has these samples
abbrev pub plane_field : Grid → ℕ → List ℤ → ℤ → ℕ → ℤ
plane_field g k values level p = shifted (slice_index_or values (p - k * plane_size g) (pos 0)) level

-- one sample for each point of plane k of the grid
pub record IsPlane (p : Plane) : Type 0 where
  pub grid : IsGrid p.sizes
  pub count : length p.values.now ≡ plane_size p.sizes
  pub samples : All IsSample p.values.now
  pub within : p.k < p.sizes.nz

-- the field of a plane, and its segments
abbrev pub field_of : Plane → ℕ → ℤ
field_of p = plane_field p.sizes p.k p.values.now p.level

abbrev pub pairs_of : Plane → List (ℕ × ℕ)
pairs_of p = plane_pairs p.sizes (field_of p) p.k

-- a lattice edge of a plane: from (x, y) along x or along y
pub record IsEdge (g : Grid) (e : Edge) : Type 0 where
  pub x : e.x < g.nx
  pub y : e.y < g.ny
  pub known : e.axis < 2
  pub right : e.axis ≡ 0 → e.x + 1 < g.nx
  pub ahead : e.axis ≡ 1 → e.y + 1 < g.ny

-- its name in the grid
abbrev pub name_at : Grid → ℕ → Edge → ℕ
name_at g k e = edge_name (index g e.x e.y k) e.axis

-- a side of a square of the plane that has the lattice edge, and runs along it or back
pub record IsSideOf (p : Plane) (e : Edge) (along : Bool) (q : Side) : Type 0 where
  pub x : q.x + 1 < p.sizes.nx
  pub y : q.y + 1 < p.sizes.ny
  pub known : q.number < 4
  pub edge : side p.sizes (index p.sizes q.x q.y p.k) q.number ≡ name_at p.sizes p.k e
  pub direction : runs_along q.number ≡ along

-- the lattice edge of a plane, if there is one, that follows another along a segment
abbrev pub IsNext : Plane → ℕ → Option Edge → Type 0
IsNext p e None = begins (pairs_of p) e ≡ false
IsNext p e (Some n) = IsEdge p.sizes n × (has_pair (pairs_of p) e (name_at p.sizes p.k n) ≡ true)

-- or that comes before it
abbrev pub IsPrevious : Plane → ℕ → Option Edge → Type 0
IsPrevious p e None = ends (pairs_of p) e ≡ false
IsPrevious p e (Some n) = IsEdge p.sizes n × (has_pair (pairs_of p) (name_at p.sizes p.k n) e ≡ true)

-- an edge of the square at (x, y), by its number in the cycle
abbrev pub square_side : ℕ → ℕ → ℕ → Edge
square_side x y zero = record { x = x; y = y; axis = 0 }
square_side x y (suc zero) = record { x = x + 1; y = y; axis = 1 }
square_side x y (suc (suc zero)) = record { x = x; y = y + 1; axis = 0 }
square_side x y (suc (suc (suc _))) = record { x = x; y = y; axis = 1 }

-- an edge at which a segment begins or ends
abbrev pub IsActive : List (ℕ × ℕ) → ℕ → Type 0
IsActive pairs e = (begins pairs e ≡ true) ⊎ (ends pairs e ≡ true)

-- the number of a lattice edge among those of its plane
abbrev pub slot_of : Grid → Edge → ℕ
slot_of g e = 2 * (e.x + g.nx * e.y) + e.axis

-- the line listed from an edge, with whether it is a cycle, and with its points
abbrev pub line_at : Plane → ℕ → Bool × List Point
line_at p d = (ends (pairs_of p) d, map (point_at p.sizes (field_of p)) (line_from (pairs_of p) d))

-- edges that were marked, and those of a line
pub record AreMarked (p : Plane) (d : ℕ) (old new : List Bool) : Type 0 where
  pub count : length new ≡ length old
  pub each : (t : ℕ) → t < length old → slice_index_or new t false
      ≡ (slice_index_or old t false || is_in (slot_name p.sizes p.k t) (line_from (pairs_of p) d))
