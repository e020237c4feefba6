-- The corners of a cell, and its samples among the copies of the brick that has it.
use Rattle.std.proofs.Common.{◌≡◌, ℕ, ◌+◌, ◌*◌, ◌/◌, ◌%◌, ◌<◌, ◌≤◌, List, refl, sym, ◌∙◌, ap, subst, ℤ, arith}
use Rattle.iso_defs.specs.Grid.{Grid, index}
use Rattle.iso_defs.specs.Cell.{corner_point}
use Rattle.iso_defs.specs.Bricks.{brick_count}
use Rattle.iso_defs.proofs.Points.{index_in}
use Rattle.iso_base.specs.Volume.{IsSample, shifted, IsVolume, Volume, sample}
use Rattle.iso_base.proofs.VolumeLaws.{sample_in_range}
use Rattle.brick_store.specs.Copies.{AreCopiesOf}
use Rattle.flat_mesh.specs.Centres.{IsCellAt}
use Rattle.flat_mesh.specs.declared.centres.Cell.{Cell}
use Rattle.brick_rows.specs.declared.bricks.BrickRow.{BrickRow}
use Rattle.brick_rows.specs.Bricks.{HoldRow}
use Rattle.brick_rows.proofs.Places.{number_in, offset_point, row_there}

-- the corner of a cell at these offsets
pub corner_at : (g : Grid) (x y z i j k : ℕ) → i ≤ 1 → j ≤ 1 → k ≤ 1
    → corner_point g (index g x y z) (i + 2 * j + 4 * k) ≡ index g (x + i) (y + j) (z + k)
corner_at g x y z i j k hi hj hk =
    let c : ℕ = i + 2 * j + 4 * k in
    let ex : c % 2 ≡ i = omega arith in
    let ey : c / 2 % 2 ≡ j = omega arith in
    let ez : c / 4 ≡ k = omega arith in
    moved (c % 2) (c / 2 % 2) (c / 4) ex ey ez ∙ spread g.nx g.ny
  where
    moved : (d e f : ℕ) → d ≡ i → e ≡ j → f ≡ k
        → index g x y z + (d * 1 + (e * g.nx + f * (g.nx * g.ny))) ≡ index g x y z + (i * 1 + (j * g.nx + k * (g.nx * g.ny)))
    moved d e f p q r = rw (p, q, r) refl

    spread : (m n : ℕ) → x + m * (y + n * z) + (i * 1 + (j * m + k * (m * n))) ≡ x + i + m * (y + j + n * (z + k))
    spread m n = omega arith

-- the corners of a cell, among the copies of its brick
module _ (v : Volume) (is : IsVolume v) (cell : Cell) (at : IsCellAt v.grid cell) (held : BrickRow) (hold : HoldRow v.grid cell.low.y cell.low.z held) where
  abbrev x : ℕ
  x = cell.low.x / 8

  wide : 8 * (cell.low.x / 8) + 1 < v.grid.nx
  wide = let h = at.x in omega arith

  deep : cell.low.y < v.grid.ny
  deep = let h = at.y in omega arith

  high : cell.low.z < v.grid.nz
  high = let h = at.z in omega arith

  pub brick_has : held.first + cell.low.x / 8 < brick_count v.grid
  brick_has = number_in v.grid is.grid (cell.low.x / 8) cell.low.y cell.low.z wide deep high held hold

  pub held_y : held.y < 8
  held_y = let h = hold.y_at in let l = at.y in omega arith

  pub held_z : held.z < 8
  held_z = let h = hold.z_at in let l = at.z in omega arith

  module _ (copies : List ℤ) (are : AreCopiesOf v.grid v.samples (held.first + cell.low.x / 8) copies) (place : ℕ) (here : place ≡ cell.low.x % 8 + 9 * (held.y + 9 * held.z)) where
    corner_copy : (i j k p : ℕ) → i ≤ 1 → j ≤ 1 → k ≤ 1 → p ≡ place + (i + 9 * (j + 9 * k)) → sample copies p ≡ sample v.samples (corner_point v.grid cell.index (i + 2 * j + 4 * k))
    corner_copy i j k p hi hj hk e =
        let hx = at.x in
        let hy = at.y in
        let hz = at.z in
        let ly = held_y in
        let lz = held_z in
        let o : ℕ = cell.low.x % 8 + i in
        let room : 8 * (cell.low.x / 8) + (cell.low.x % 8 + i) < v.grid.nx = omega arith in
        let there = row_there v.grid is.grid (cell.low.x / 8) cell.low.y cell.low.z wide deep high held hold (cell.low.x % 8 + i) j k room (omega arith) (omega arith) in
        let spot : p ≡ cell.low.x % 8 + i + 9 * (held.y + j + 9 * (held.z + k)) = omega arith in
        let along : 8 * (cell.low.x / 8) + (cell.low.x % 8 + i) ≡ cell.low.x + i = omega arith in
        ap (sample copies) spot
        ∙ (are.each (cell.low.x % 8 + i) (held.y + j) (held.z + k) (omega arith) (omega arith) (omega arith) there
        ∙ ap (sample v.samples) (offset_point v.grid is.grid (cell.low.x / 8) cell.low.y cell.low.z wide deep high held hold (cell.low.x % 8 + i) j k
        ∙ (ap (λ n. index v.grid n (cell.low.y + j) (cell.low.z + k)) along
        ∙ (sym (corner_at v.grid cell.low.x cell.low.y cell.low.z i j k hi hj hk) ∙ ap (λ q. corner_point v.grid q (i + 2 * j + 4 * k)) (sym at.index)))))

    pub corner_sample : (i j k p : ℕ) → i ≤ 1 → j ≤ 1 → k ≤ 1 → p ≡ place + (i + 9 * (j + 9 * k)) → IsSample (sample copies p)
    corner_sample i j k p hi hj hk e =
        let hx = at.x in
        let hy = at.y in
        let hz = at.z in
        let q = ap (λ q. corner_point v.grid q (i + 2 * j + 4 * k)) at.index ∙ corner_at v.grid cell.low.x cell.low.y cell.low.z i j k hi hj hk in
        subst IsSample (sym (corner_copy i j k p hi hj hk e ∙ ap (sample v.samples) q))
        (sample_in_range v (index v.grid (cell.low.x + i) (cell.low.y + j) (cell.low.z + k)) is
        (index_in v.grid (cell.low.x + i) (cell.low.y + j) (cell.low.z + k) (omega arith) (omega arith) (omega arith)))

    pub corner_height : (i j k p : ℕ) (level height : ℤ) → i ≤ 1 → j ≤ 1 → k ≤ 1 → p ≡ place + (i + 9 * (j + 9 * k)) → height ≡ shifted (sample copies p) level
        → height ≡ shifted (sample v.samples (corner_point v.grid cell.index (i + 2 * j + 4 * k))) level
    corner_height i j k p level height hi hj hk e is_height = is_height ∙ ap (λ s. shifted s level) (corner_copy i j k p hi hj hk e)
