-- The signs of the rows around a row of cells.
use Rattle.std.specs.Prelude.{◌≡◌, ℕ, ◌<◌, List, length, slice_index}
pub use Rattle.crossing_edges.specs.Slices.{AreSliceSigns, AreSlices, next_to}
use Rattle.flat_mesh.specs.Lattice.{Leveled}
use Rattle.flat_mesh.specs.Rows.{AreSigns}
use Rattle.sample_rows.specs.declared.signs.RowSigns.{RowSigns}

-- each byte is this one
abbrev pub AreAllOf : List ℕ → ℕ → Type 0
AreAllOf bytes byte = (x : ℕ) → x < length bytes → slice_index bytes x ≡ byte

-- the signs of a row of points, and of the next rows along y, along z and along both
pub record AreRowSigns (v : Leveled) (y z : ℕ) (row : RowSigns) : Type 0 where
  pub here : AreSigns v y z row.here.now
  pub up : AreSigns v (next_to y v.grid.ny) z row.up.now
  pub far : AreSigns v y (next_to z v.grid.nz) row.far.now
  pub both : AreSigns v (next_to y v.grid.ny) (next_to z v.grid.nz) row.both.now
