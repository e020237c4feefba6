-- The bricks that hold a row of points.
use Rattle.std.specs.Prelude.{◌≡◌, ℕ, ◌+◌, ◌-◌, ◌*◌, ◌/◌, ◌<◌, ◌≤◌, ℤ, Bool, true, false, min, List, slice_index}
use Rattle.std.specs.List.{list_any}
use Rattle.iso_defs.specs.Lists.{below}
use Rattle.iso_defs.specs.Grid.{Grid}
use Rattle.iso_defs.specs.Bricks.{brick_count, bricks_along, is_active}
use Rattle.flat_mesh.specs.Lattice.{Leveled, heights}
use Rattle.brick_rows.specs.declared.active.ActiveSlice.{ActiveSlice}
use Rattle.brick_rows.specs.declared.active.ActiveRow.{ActiveRow}
use Rattle.brick_rows.specs.declared.bricks.BrickRow.{BrickRow}
use Rattle.brick_rows.specs.declared.bricks.PointRow.{PointRow}

-- the last row of bricks along an axis that holds a coordinate
abbrev pub brick_at : Grid → ℕ → ℕ → ℕ
brick_at g axis c = min (c / 8) (bricks_along g axis - 1)

-- the first brick that holds the points (x, y, z) for the least x
abbrev pub first_brick : Grid → ℕ → ℕ → ℕ
first_brick g y z = bricks_along g 0 * (brick_at g 1 y + bricks_along g 1 * brick_at g 2 z)

-- the bricks that hold a row of points, and where it is in them
pub record HoldRow (g : Grid) (y z : ℕ) (row : BrickRow) : Type 0 where
  pub first : row.first ≡ first_brick g y z
  pub y_at : row.y + 8 * brick_at g 1 y ≡ y
  pub z_at : row.z + 8 * brick_at g 2 z ≡ z

-- the next coordinate along an axis of this size, or the last one again
abbrev pub next_at : ℕ → ℕ → ℕ
next_at c size = min (c + 1) (size - 1)

-- a row of points has these bricks, and the next ones along y and z are so far from it
pub record IsPointRow (g : Grid) (row : PointRow) : Type 0 where
  pub y_low : row.y < g.ny
  pub z_low : row.z < g.nz
  pub bricks : HoldRow g row.y row.z row.bricks
  pub up : row.y + row.up ≡ next_at row.y g.ny
  pub far : row.z + row.far ≡ next_at row.z g.nz

-- a brick is active at a level
pub record IsActive (v : Leveled) (brick : ℕ) : Type 0 where
  pub is : is_active v.grid (heights v) brick ≡ true

-- some brick of those that hold a row of points is active
unfoldable pub is_active_row : Leveled → ℕ → ℕ → Bool
is_active_row v y z = list_any (λ x. is_active v.grid (heights v) (first_brick v.grid y z + x))
    (below (bricks_along v.grid 0))

-- the least active brick from a number on, or a number behind all bricks
pub record IsNextFrom (g : Grid) (s : ℕ → ℤ) (from next : ℕ) : Type 0 where
  pub least : from ≤ next
  pub active : next < brick_count g → is_active g s next ≡ true
  pub none_before : (b : ℕ) → from ≤ b → b < next → b < brick_count g → is_active g s b ≡ false

-- these say of the first bricks which are the least active ones from them on
pub record AreNextTo (v : Leveled) (first count : ℕ) (next : List ℕ) : Type 0 where
  pub each : (x : ℕ) → x < count → first + x < brick_count v.grid →
      IsNextFrom v.grid (heights v) (first + x) (slice_index next x)

-- these are noted for all bricks of a slice
abbrev pub IsMarkedSlice : Leveled → ActiveSlice → Type 0
IsMarkedSlice v slice = AreNextTo v slice.first (bricks_along v.grid 0 * bricks_along v.grid 1) slice.next_from

-- and for those of them that hold the rows of points round one
pub record AreMarked (v : Leveled) (marks : ActiveRow) : Type 0 where
  pub slice : IsMarkedSlice v marks.slice
  pub next :
      (x : ℕ) → x < bricks_along v.grid 0 → marks.first + x < brick_count v.grid
      → IsNextFrom v.grid (heights v) (marks.first + x) (slice_index marks.slice.next_from (marks.start + x))
  pub start : marks.start ≤ 129 * 128
  pub rows : (y z : ℕ) → y < v.grid.ny → z < v.grid.nz → y / 8 ≡ marks.y / 8 → z / 8 ≡ marks.z / 8 → marks.first
      ≡ first_brick v.grid y z
