-- Rows that the same bricks have.
use Rattle.std.proofs.Common.{◌≡◌, ℕ, ◌+◌, ◌-◌, ◌*◌, ◌/◌, ◌%◌, ◌<◌, ◌≤◌, min, sym, ap, subst, ◌∙◌, arith, refl}
use Rattle.std.proofs.lemmas.Nat.{div-add-mod', div_below}
use Rattle.std.proofs.Math.Nat.{mul-le-mul_left}
use Rattle.iso_defs.specs.Grid.{Grid, index}
use Rattle.iso_defs.specs.Bricks.{bricks_along, brick_count, brick_point, brick_start}
use Rattle.iso_base.specs.Volume.{Volume, IsVolume, inner_grid, layer, sample}
use Rattle.brick_store.specs.Holding.{brick_at}
use Rattle.brick_store.proofs.BrickNumbers.{IsPlaced, brick_in, in_is, places}
use Rattle.unpadded_volume.specs.Rows.{AreRowsOf}
use Rattle.unpadded_volume.specs.Unpadded.{inner_samples}
use Rattle.unpadded_volume.specs.declared.rows.BrickRows.{BrickRows}
use Rattle.unpadded_volume.proofs.InnerSamples.{inner_at}

-- where a row of the grid off the layer lies in its plane, and how the rows behind it are numbered
module _ (ny nz row : ℕ) (some : 0 < ny) (low : row < ny * nz) where
  pub row_y : row % ny < ny
  row_y = omega arith

  pub row_z : row / ny < nz
  row_z = div_below row ny nz some (omega arith)

  numbered : row % ny + ny * (row / ny) ≡ row
  numbered = omega (arith, div-add-mod' row ny)

  pub rows_within : (count : ℕ) → count ≤ ny - row % ny → row + count ≤ ny * nz
  rows_within count few =
      let up : ny * (row / ny + 1) ≤ ny * nz = mul-le-mul_left ny (omega (arith, row_z)) in
      omega (arith, numbered, row_y)

  pub place_in_rows : (nx r x : ℕ) → x + nx * (row % ny + r + ny * (row / ny)) ≡ row * nx + (nx * r + x)
  place_in_rows nx r x = spread (row % ny) (ny * (row / ny)) numbered
    where
      spread : (a b : ℕ) → a + b ≡ row → x + nx * (a + r + b) ≡ row * nx + (nx * r + x)
      spread a b e = subst (λ w. x + nx * (a + r + b) ≡ w * nx + (nx * r + x)) e (omega arith)

-- a line of bricks has so many rows of a plane
module _ (v : Volume) (is : IsVolume v) (at : BrickRows) (y z : ℕ) (y_low : y < v.grid.ny) (z_low : z < v.grid.nz)
    (first : at.first ≡ bricks_along v.grid 0 * ((y - 1) / 8 + bricks_along v.grid 1 * ((z - 1) / 8))) where
  placed : (b : ℕ) → b < bricks_along v.grid 0 → IsPlaced v.grid (at.first + b) b ((y - 1) / 8) ((z - 1) / 8)
  placed b low =
      let ly = is.grid.y.least in
      let lz = is.grid.z.least in
      let same : brick_at v.grid b ((y - 1) / 8) ((z - 1) / 8) ≡ at.first + b = omega (arith, first) in
      subst (λ n. IsPlaced v.grid n b ((y - 1) / 8) ((z - 1) / 8)) same (places v.grid b ((y - 1) / 8) ((z - 1) / 8) low (omega arith) (omega arith))

  pub brick_low : (b : ℕ) → b < bricks_along v.grid 0 → at.first + b < brick_count v.grid
  brick_low b low =
      let ly = is.grid.y.least in
      let lz = is.grid.z.least in
      let same : brick_at v.grid b ((y - 1) / 8) ((z - 1) / 8) ≡ at.first + b = omega (arith, first) in
      subst (λ n. n < brick_count v.grid) same (brick_in v.grid b ((y - 1) / 8) ((z - 1) / 8) low (omega arith) (omega arith))

-- they are the rows from one on
pub rows_are : (v : Volume) (g : Grid) (at : BrickRows) → IsVolume v → g ≡ inner_grid v → at.row < g.ny * g.nz → at.x ≡ layer v.pad
    → at.first ≡ bricks_along v.grid 0 * ((at.row % g.ny + layer v.pad - 1) / 8 + bricks_along v.grid 1 * ((at.row / g.ny + layer v.pad - 1) / 8))
    → at.y ≡ at.row % g.ny + layer v.pad - 8 * ((at.row % g.ny + layer v.pad - 1) / 8)
    → at.z ≡ at.row / g.ny + layer v.pad - 8 * ((at.row / g.ny + layer v.pad - 1) / 8)
    → at.count ≡ min (9 - at.y) (g.ny - at.row % g.ny) → AreRowsOf v at
rows_are v g at is same low ex first ey ez few = record {
  x_is = ex;
  y_low = omega (arith, few, ey);
  z_low = omega (arith, ez);
  bricks = λ b lb. brick_low v is at y z y_low z_low first b lb;
  each = λ b offset r x lb lr lx place.
      let brick = placed v is at y z y_low z_low first b lb in
      let x_at : brick_start v.grid (at.first + b) 0 + offset ≡ x + layer v.pad = omega (arith, brick.x_start, place, ex) in
      let y_at : brick_start v.grid (at.first + b) 1 + (at.y + r) ≡ at.row % g.ny + r + layer v.pad = omega (arith, brick.y_start, ey) in
      let z_at : brick_start v.grid (at.first + b) 2 + at.z ≡ z = omega (arith, brick.z_start, ez) in
      let r_low : at.row % g.ny + r < g.ny = omega (arith, lr, few, row_y g.ny g.nz at.row some low) in
      record {
        inside = in_is v.grid (at.first + b) offset (at.y + r) at.z (record {
          x_in = omega (arith, x_at, lx);
          y_in = omega (arith, y_at, r_low, ny);
          z_in = omega (arith, z_at, z_low);
        });
        same = ap (sample v.samples) (point x (at.row % g.ny + r) b offset r x_at y_at z_at)
            ∙ (inner_at v x (at.row % g.ny + r) (at.row / g.ny) lx (omega (arith, r_low, ny)) (omega (arith, row_z g.ny g.nz at.row some low, nz))
            ∙ ap (sample (inner_samples v)) (index_is x r));
      };
}
  where
    nx : g.nx ≡ (inner_grid v).nx
    nx = ap (λ (g : Grid). g.nx) same

    ny : g.ny ≡ (inner_grid v).ny
    ny = ap (λ (g : Grid). g.ny) same

    nz : g.nz ≡ (inner_grid v).nz
    nz = ap (λ (g : Grid). g.nz) same

    y : ℕ
    y = at.row % g.ny + layer v.pad

    z : ℕ
    z = at.row / g.ny + layer v.pad

    some : 0 < g.ny
    some = let h = is.inner.y.least in omega (arith, ny)

    y_low : at.row % g.ny + layer v.pad < v.grid.ny
    y_low = omega (arith, row_y g.ny g.nz at.row some low, ny)

    z_low : at.row / g.ny + layer v.pad < v.grid.nz
    z_low = omega (arith, row_z g.ny g.nz at.row some low, nz)

    point : (x y b offset r : ℕ) → brick_start v.grid (at.first + b) 0 + offset ≡ x + layer v.pad → brick_start v.grid (at.first + b) 1 + (at.y + r) ≡ y + layer v.pad
        → brick_start v.grid (at.first + b) 2 + at.z ≡ at.row / g.ny + layer v.pad
        → brick_point v.grid (at.first + b) offset (at.y + r) at.z ≡ index v.grid (x + layer v.pad) (y + layer v.pad) (at.row / g.ny + layer v.pad)
    point x y b offset r ex ey ez = rw (ex, ey, ez) refl

    index_is : (x r : ℕ) → index (inner_grid v) x (at.row % g.ny + r) (at.row / g.ny) ≡ at.row * (inner_grid v).nx + ((inner_grid v).nx * r + x)
    index_is x r = rw (sym ny) (place_in_rows g.ny g.nz at.row some low (inner_grid v).nx r x)
