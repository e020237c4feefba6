-- The signs of two slices of points next to each other.
use Rattle.std.specs.Prelude.{◌≡◌, ℕ, ◌+◌, ◌-◌, ◌*◌, ◌<◌, List, drop, length, map, min, take}
use Rattle.iso_defs.specs.Grid.{Grid}
use Rattle.crossing_edges.specs.Leveled.{Leveled}
use Rattle.crossing_edges.specs.Signs.{sign_of}
use Rattle.crossing_edges.specs.declared.slices.SliceSigns.{SliceSigns}

-- the signs of the points of a slice
pub record AreSliceSigns (v : Leveled) (z : ℕ) (signs : List ℕ) : Type 0 where
  pub list : signs ≡ map (sign_of v.level)
      (take (v.grid.nx * v.grid.ny) (drop (v.grid.nx * v.grid.ny * z) v.samples))

-- those of a slice and of the next one, if there is one
pub record AreSlices (v : Leveled) (z : ℕ) (signs : SliceSigns) : Type 0 where
  pub near : AreSliceSigns v z signs.near.items
  pub far : z + 1 < v.grid.nz → AreSliceSigns v (z + 1) signs.far.items

-- the next coordinate, or the last one again
abbrev pub next_to : ℕ → ℕ → ℕ
next_to c size = min (c + 1) (size - 1)

-- room for the signs of two slices
pub record HaveSlices (g : Grid) (signs : SliceSigns) : Type 0 where
  pub near : length signs.near.items ≡ g.nx * g.ny
  pub far : length signs.far.items ≡ g.nx * g.ny

-- those of the slice of a row of points, and of the next one; behind the last row they are open
pub record AreAtRow (v : Leveled) (row : ℕ) (signs : SliceSigns) : Type 0 where
  pub room : HaveSlices v.grid signs
  pub slices : (y z : ℕ) → y < v.grid.ny → z < v.grid.nz → row ≡ y + v.grid.ny * z → AreSlices v z signs
