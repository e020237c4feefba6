-- The contour lines as the code gives them.
use Rattle.std.specs.Prelude.{◌≡◌, ℕ, ◌+◌, ◌*◌, ◌<◌, ℤ, pos, Bool, true, false, ◌⊎◌, List, map, Option, Some, None, slice_index_or}
use Rattle.iso_defs.specs.Grid.{Grid}
use Rattle.iso_base.specs.Volume.{shifted}
use Rattle.plane_laws.specs.Lines.{start_of}
use Rattle.plane_laws.specs.Sides.{slot_name}
use Rattle.plane_contour.specs.declared.plane.Plane.{Plane}
use Rattle.plane_contour.specs.declared.plane.Edge.{Edge}
use Rattle.plane_contour.specs.Texts.{DrawnLine, point_at}
use Rattle.plane_contour.specs.Planes.{IsActive, IsEdge, AreMarked, pairs_of, plane_size, line_at, name_at}

-- the points of a line of edges
abbrev pub drawn : Grid → (ℕ → ℤ) → Bool × List ℕ → DrawnLine
drawn g s l = (l.0, map (point_at g s) l.1)

-- the shifted values of plane k are those of these samples
abbrev pub HasPlane : Grid → ℕ → List ℤ → ℤ → (ℕ → ℤ) → Type 0
HasPlane g k values level s = (q : ℕ) → q < plane_size g → s (k * plane_size g + q)
    ≡ shifted (slice_index_or values q (pos 0)) level

-- the edge of a number, or none where no square has one of that number
abbrev pub IsNumbered : Plane → ℕ → Option Edge → Type 0
IsNumbered p t None = ¬ IsActive (pairs_of p) (slot_name p.sizes p.k t)
IsNumbered p t (Some e) = IsEdge p.sizes e × (name_at p.sizes p.k e ≡ slot_name p.sizes p.k t)

-- the line that is met first at the edge of a number, or none
abbrev pub IsLineMet : Plane → ℕ → List Bool → List Bool → Option DrawnLine → Type 0
IsLineMet p t old new None =
    (new ≡ old) × ((slice_index_or old t false ≡ true) ⊎ ¬ IsActive (pairs_of p) (slot_name p.sizes p.k t))
IsLineMet p t old new (Some l) =
    (slice_index_or old t false ≡ false) × IsActive (pairs_of p) (slot_name p.sizes p.k t)
    × (l ≡ line_at p (start_of (pairs_of p) (slot_name p.sizes p.k t)))
    × AreMarked p (start_of (pairs_of p) (slot_name p.sizes p.k t)) old new
