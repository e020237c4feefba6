-- A brick of a volume at a level: its points and its cells.
use Rattle.std.specs.Prelude.{ℕ, ◌+◌, ◌*◌, ◌/◌, ◌%◌, ◌<◌, ℤ, List, map, true, ◌≡◌, ◌≤◌}
use Rattle.iso_defs.specs.Lists.{below}
use Rattle.iso_defs.specs.Grid.{Grid}
use Rattle.iso_defs.specs.Bricks.{brick_count, brick_point, has_cell, in_brick}
use Rattle.iso_base.specs.Volume.{field, shifted, Volume, sample}
use Rattle.brick_store.specs.Holding.{points_along}

-- a brick of a grid with samples, and a level
pub record BrickAt : Type 0 where
  pub grid : Grid
  pub samples : List ℤ
  pub brick : ℕ
  pub level : ℤ

-- the brick of a volume at a level
abbrev pub block_of : Volume → ℕ → ℤ → BrickAt
block_of v brick level = record { grid = v.grid; samples = v.samples; brick = brick; level = level }

-- the shifted values
abbrev pub heights : BrickAt → ℕ → ℤ
heights b = field b.samples b.level

-- a brick of the grid, which has so many points along each axis, two at least
pub record IsSpanned (g : Grid) (brick x y z : ℕ) : Type 0 where
  pub known : brick < brick_count g
  pub along_x : x ≡ points_along g brick 0
  pub along_y : y ≡ points_along g brick 1
  pub along_z : z ≡ points_along g brick 2
  pub least_x : 2 ≤ x
  pub least_y : 2 ≤ y
  pub least_z : 2 ≤ z

-- the place of a point of the brick
abbrev pub point_in : BrickAt → ℕ → ℕ → ℕ → ℕ
point_in b x y z = brick_point b.grid b.brick x y z

-- whether the brick has a point at these offsets
abbrev pub HasPoint : BrickAt → ℕ → ℕ → ℕ → Type 0
HasPoint b x y z = in_brick b.grid b.brick x y z ≡ true

-- a cell of the brick
pub record IsCell (b : BrickAt) (cell : ℕ) : Type 0 where
  pub local : cell < 512
  pub there : has_cell b.grid b.brick cell ≡ true

-- a row of cells of the brick
pub record IsCellRow (b : BrickAt) (y z : ℕ) : Type 0 where
  pub y_low : y < 8
  pub z_low : z < 8
  pub last : HasPoint b 0 (y + 1) (z + 1)

-- where the copy of a corner of a cell lies behind the lowest one
abbrev pub corner_place : ℕ → ℕ
corner_place corner = corner % 2 + 9 * (corner / 2 % 2 + 9 * (corner / 4))

-- the shifted values at the corners of the cell whose lowest copy is at this place
abbrev pub corner_values : ℤ → List ℤ → ℕ → List ℤ
corner_values level copies low = map (λ corner. shifted (sample copies (low + corner_place corner)) level) (below 8)
