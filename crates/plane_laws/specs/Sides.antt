-- The sides of the unit squares of a plane: edge i of a square runs from corner i of its cycle to the next.
use Rattle.std.specs.Prelude.{◌≡◌, ℕ, ◌+◌, ◌*◌, ◌/◌, ◌%◌, ◌<◌, ℤ, Bool, true, List, nat_lt, slice_index}
use Rattle.iso_defs.specs.Lists.{is_in}
use Rattle.iso_defs.specs.Grid.{Grid}
use Rattle.iso_defs.specs.Face.{value_segments}
use Rattle.iso_defs.specs.Contours.{squares, square_edges}

-- the name of edge i of the square at a point
abbrev pub side : Grid → ℕ → ℕ → ℕ
side g p i = slice_index (square_edges g p) i

-- the segments of the square, by the numbers of its edges
abbrev pub side_pairs : Grid → (ℕ → ℤ) → ℕ → List (ℕ × ℕ)
side_pairs g s p = value_segments (s p) (s (p + 1)) (s (p + g.nx + 1)) (s (p + g.nx))

-- edges 0 and 1 run along their lattice edges, from the lower to the upper end; 2 and 3 run back
abbrev pub runs_along : ℕ → Bool
runs_along i = nat_lt i 2

-- a square of the plane that has the lattice edge, and runs along it or back
pub record HasSide (g : Grid) (k e : ℕ) (along : Bool) : Type 0 where
  pub point : ℕ
  pub at : ℕ
  pub square : is_in point (squares g k) ≡ true
  pub known : at < 4
  pub edge : side g point at ≡ e
  pub direction : runs_along at ≡ along

-- the lattice edges of the plane in order of name, two at each point: the name of the one numbered t
abbrev pub slot_name : Grid → ℕ → ℕ → ℕ
slot_name g k t = 3 * (k * (g.nx * g.ny) + t / 2) + t % 2
