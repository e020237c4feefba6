-- The labels of lattice edges within two slices.
use Rattle.std.specs.Prelude.{◌≡◌, ℕ, ◌+◌, ◌*◌, ◌%◌, ◌<◌, ◌≤◌, List, slice_index}
use Rattle.iso_defs.specs.Grid.{Grid}

-- the label of an edge that has none
abbrev pub none : ℕ
none = 4294967295

-- the labels that stand, by the places of edges
pub record Marks : Type 0 where
  pub grid : Grid
  pub labels : List ℕ

-- how many edges begin in two slices
abbrev pub room : Grid → ℕ
room g = 6 * (g.nx * g.ny)

-- the first edge that may begin in a row of points
abbrev pub row_name : Grid → ℕ → ℕ
row_name g row = 3 * (g.nx * row)

-- the labels of the edges of two slices, from a row on
pub record AreLabels (g : Grid) (row : ℕ) (label : ℕ → ℕ) (labels : List ℕ) : Type 0 where
  pub each : (n : ℕ) → row_name g row ≤ n → n < row_name g row + room g → slice_index labels (n % room g) ≡ label n

-- where the label of the i-th edge of a loop stands, by the places of the edges of a cell
abbrev pub slot_of : List ℕ → ℕ → List ℕ → ℕ → ℕ
slot_of places shift edges i = slice_index places (slice_index edges i) + shift
