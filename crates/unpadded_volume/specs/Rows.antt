-- Rows off the pad's layer, and where the bricks have them.
use Rattle.std.specs.Prelude.{◌≡◌, ℕ, ◌+◌, ◌*◌, ◌<◌, ◌≤◌, ℤ, List, true}
use Rattle.iso_defs.specs.Bricks.{brick_count, brick_point, bricks_along, in_brick}
use Rattle.iso_base.specs.Volume.{Volume, inner_grid, layer, sample}
use Rattle.unpadded_volume.specs.Unpadded.{inner_samples}
use Rattle.unpadded_volume.specs.declared.rows.BrickRows.{BrickRows}

-- the first of a list, so many, are the samples from one on
abbrev pub AreSamples : List ℤ → ℕ → ℕ → List ℤ → Type 0
AreSamples all start count samples = (i : ℕ) → i < count → sample samples i ≡ sample all (start + i)

-- a brick has a sample of a row, so many behind the first, at this offset along x
pub record HasSample (v : Volume) (at : BrickRows) (b offset r x : ℕ) : Type 0 where
  pub inside : in_brick v.grid (at.first + b) offset (at.y + r) at.z ≡ true
  pub same :
      sample v.samples (brick_point v.grid (at.first + b) offset (at.y + r) at.z)
      ≡ sample (inner_samples v) (at.row * (inner_grid v).nx + ((inner_grid v).nx * r + x))

-- rows that the bricks from the first one on have
pub record AreRowsOf (v : Volume) (at : BrickRows) : Type 0 where
  pub x_is : at.x ≡ layer v.pad
  pub y_low : at.y + at.count ≤ 9
  pub z_low : at.z < 9
  pub bricks : (b : ℕ) → b < bricks_along v.grid 0 → at.first + b < brick_count v.grid
  pub each :
      (b offset r x : ℕ) → b < bricks_along v.grid 0 → r < at.count → x < (inner_grid v).nx → 8 * b + offset ≡ x + at.x
      → HasSample v at b offset r x

-- of rows of a width, those in the first columns are their samples
pub record HasColumns (v : Volume) (at : BrickRows) (columns : ℕ) (samples : List ℤ) : Type 0 where
  pub each :
      (r x : ℕ) → r < at.count → x < columns
      → sample samples ((inner_grid v).nx * r + x)
      ≡ sample (inner_samples v) (at.row * (inner_grid v).nx + ((inner_grid v).nx * r + x))

-- in rows of a width so many columns from one on are copies of a brick, nine to a row, and the columns before are as they were
pub record ArePieces (copies old new : List ℤ) (from count rows at width : ℕ) : Type 0 where
  pub copied : (r i : ℕ) → r < rows → i < count → sample new (width * r + (at + i)) ≡ sample copies (from + 9 * r + i)
  pub before : (r i : ℕ) → i < at → sample new (width * r + i) ≡ sample old (width * r + i)
