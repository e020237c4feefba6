-- The samples at the ends of the edges that begin in a row of points.
use Rattle.std.specs.Prelude.{◌≡◌, ℕ, ◌+◌, ◌*◌, ◌<◌, ℤ, List, length}
use Rattle.iso_defs.specs.Grid.{index}
use Rattle.iso_base.specs.Volume.{sample}
use Rattle.flat_mesh.specs.Lattice.{Leveled}

-- the samples of the row, and behind them those of the next rows along y and z as far as these are there
pub record HaveEnds (v : Leveled) (y z : ℕ) (ends : List ℤ) : Type 0 where
  pub count : length ends ≡ 3 * v.grid.nx
  pub here : (x : ℕ) → x < v.grid.nx → sample ends x ≡ sample v.samples (index v.grid x y z)
  pub up : (x : ℕ) → x < v.grid.nx → y + 1 < v.grid.ny → sample ends (v.grid.nx + x)
      ≡ sample v.samples (index v.grid x (y + 1) z)
  pub far : (x : ℕ) → x < v.grid.nx → z + 1 < v.grid.nz → sample ends (2 * v.grid.nx + x)
      ≡ sample v.samples (index v.grid x y (z + 1))
