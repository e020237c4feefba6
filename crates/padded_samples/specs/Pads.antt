-- Samples in a pad: with one more layer on each of the six sides.
use Rattle.std.specs.Prelude.{◌≡◌, ℕ, ◌+◌, ◌*◌, ◌<◌, ◌≤◌, ℤ, List, length}
use Rattle.iso_defs.specs.Grid.{Grid, point_count}
use Rattle.iso_base.specs.Volume.{IsSample, IsGrid, sample, first_padded, grown, padded_sample}

-- a grid, its samples, and the pad round them
pub record InPad : Type 0 where
  pub grid : Grid
  pub samples : List ℤ
  pub pad : ℤ

-- the samples of the grown grid
abbrev pub padded_list : InPad → List ℤ
padded_list p = first_padded p.grid p.samples p.pad (point_count (grown p.grid))

-- the sample at a point of the grown grid
abbrev pub padded_at : InPad → ℕ → ℤ
padded_at p point = padded_sample p.grid p.samples p.pad point

-- one sample for each point of a grid whose grown one is a grid too
pub record IsInPad (p : InPad) : Type 0 where
  pub inner : IsGrid p.grid
  pub grid : IsGrid (grown p.grid)
  pub count : length p.samples ≡ point_count p.grid
  pub pad : IsSample p.pad

-- a row of the grown grid that is all pad
abbrev pub IsPadRow : InPad → ℕ → Type 0
IsPadRow p row = (x : ℕ) → x < p.grid.nx + 2 → padded_at p ((p.grid.nx + 2) * row + x) ≡ p.pad

-- any other: the pad, a row of samples from a place of their list on, and the pad
pub record IsInnerRow (p : InPad) (row start : ℕ) : Type 0 where
  pub within : start + p.grid.nx ≤ length p.samples
  pub first : padded_at p ((p.grid.nx + 2) * row) ≡ p.pad
  pub each : (x : ℕ) → x < p.grid.nx → padded_at p ((p.grid.nx + 2) * row + (x + 1)) ≡ sample p.samples (start + x)
  pub last : padded_at p ((p.grid.nx + 2) * row + (p.grid.nx + 1)) ≡ p.pad
