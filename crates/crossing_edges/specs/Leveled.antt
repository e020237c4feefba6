-- A volume at a level.
use Rattle.std.specs.Prelude.{◌≡◌, ℕ, ℤ, List, All, length}
use Rattle.iso_defs.specs.Grid.{Grid, point_count}
use Rattle.iso_base.specs.Volume.{IsGrid, IsSample, field}
use Rattle.crossing_edges.specs.Flags.{flags_from}

-- a grid with samples and a level
pub record Leveled : Type 0 where
  pub grid : Grid
  pub samples : List ℤ
  pub level : ℤ

-- the shifted values
abbrev pub heights : Leveled → ℕ → ℤ
heights v = field v.samples v.level

-- one sample in range for each point
pub record IsLeveled (v : Leveled) : Type 0 where
  pub grid : IsGrid v.grid
  pub count : length v.samples ≡ point_count v.grid
  pub range : All IsSample v.samples

-- and the flags of all its points
pub record AreFlagged (v : Leveled) (flags : List ℕ) : Type 0 where
  pub leveled : IsLeveled v
  pub flags_are : flags ≡ flags_from v.grid (heights v) 0 (point_count v.grid)
