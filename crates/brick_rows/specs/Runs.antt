-- The samples of points of a row that a brick holds.
use Rattle.std.specs.Prelude.{◌≡◌, ℕ, ◌+◌, ◌-◌, ◌<◌, ℤ, List, All, length, min, pos, slice_index_or}
use Rattle.iso_defs.specs.Grid.{index}
use Rattle.iso_base.specs.Volume.{IsSample, sample}
use Rattle.flat_mesh.specs.Lattice.{Leveled}

-- those from x on: nine, or fewer where the row ends
pub record IsRun (v : Leveled) (x y z : ℕ) (run : List ℤ) : Type 0 where
  pub count : length run ≡ min 9 (v.grid.nx - x)
  pub each : (k : ℕ) → k < length run → slice_index_or run k (pos 0) ≡ sample v.samples (index v.grid (x + k) y z)
  pub range : All IsSample run
