-- Rows that are copied column by column.
use Rattle.std.proofs.Common.{◌≡◌, ℕ, ◌+◌, ◌-◌, ◌*◌, ◌/◌, ◌%◌, ◌<◌, ◌≤◌, List, sym, ap, subst, ◌∙◌, arith, inl, inr, eq-zero-or-pos, ℤ}
use Rattle.std.proofs.lemmas.Nat.{div-add-mod', div_below}
use Rattle.iso_defs.specs.Grid.{Grid}
use Rattle.iso_defs.specs.Bricks.{bricks_along}
use Rattle.iso_base.specs.Volume.{Volume, IsVolume, inner_grid, sample}
use Rattle.brick_store.specs.Copies.{AreCopiesOf}
use Rattle.unpadded_volume.specs.Rows.{ArePieces, AreRowsOf, AreSamples, HasColumns, HasSample}
use Rattle.unpadded_volume.specs.Unpadded.{inner_samples}
use Rattle.unpadded_volume.specs.declared.rows.BrickRows.{BrickRows}

-- columns more, from one brick
pub columns_more : (v : Volume) (g : Grid) (at : BrickRows) (b offset count x : ℕ) (copies old new : List ℤ) (from width : ℕ) → g ≡ inner_grid v → AreRowsOf v at → b < bricks_along v.grid 0
    → 8 * b + offset ≡ x + at.x → offset + count ≤ 9 → x + count ≤ g.nx → AreCopiesOf v.grid v.samples (at.first + b) copies
    → from ≡ offset + 9 * (at.y + 9 * at.z) → width ≡ g.nx → ArePieces copies old new from count at.count x width → HasColumns v at x old → HasColumns v at (x + count) new
columns_more v g at b offset count x copies old new from width same rows lb place inside fits are ef ew pieces h = record {
  each = λ r i lr li.
      elim (eq-zero-or-pos (x - i)) [
        | inl z ↦ later r (i - x) i lr (omega arith) (omega arith)
        | inr s ↦ ap (sample new) (wide r i) ∙ (pieces.before r i (omega arith) ∙ (ap (sample old) (sym (wide r i)) ∙ h.each r i lr (omega arith)))
      ];
}
  where
    wide : (r i : ℕ) → (inner_grid v).nx * r + i ≡ width * r + i
    wide r i = ap (λ w. w * r + i) (sym (ew ∙ ap (λ (g : Grid). g.nx) same))

    copy_there : (r j : ℕ) → from + 9 * r + j ≡ offset + j + 9 * (at.y + r + 9 * at.z)
    copy_there r j = omega arith

    later : (r j i : ℕ) → r < at.count → j < count → i ≡ x + j → sample new ((inner_grid v).nx * r + i) ≡ sample (inner_samples v) (at.row * (inner_grid v).nx + ((inner_grid v).nx * r + i))
    later r j i lr lj e =
        let has : HasSample v at b (offset + j) r i = rows.each b (offset + j) r i lb lr (omega (arith, ap (λ (g : Grid). g.nx) same)) (omega arith) in
        ap (sample new) (wide r i ∙ ap (λ k. width * r + k) e)
        ∙ (pieces.copied r j lr lj
        ∙ (ap (sample copies) (copy_there r j)
        ∙ (are.each (offset + j) (at.y + r) at.z (omega arith) (omega (arith, rows.y_low)) rows.z_low has.inside ∙ has.same)))

-- all columns are whole rows
pub rows_whole : (v : Volume) (g : Grid) (at : BrickRows) (samples : List ℤ) (row rows : ℕ) → IsVolume v → g ≡ inner_grid v → at.row ≡ row → rows ≡ at.count
    → HasColumns v at g.nx samples → AreSamples (inner_samples v) (row * g.nx) (rows * g.nx) samples
rows_whole v g at samples row rows is same er en h i low =
    let some : 0 < (inner_grid v).nx = (let least = is.inner.x.least in omega arith) in
    let width : g.nx ≡ (inner_grid v).nx = ap (λ (g : Grid). g.nx) same in
    let below : i / (inner_grid v).nx < at.count = div_below i (inner_grid v).nx at.count some (subst (λ n. i < n) (ap (λ n. n * g.nx) en ∙ ap (λ n. at.count * n) width) low) in
    let column : i % (inner_grid v).nx < (inner_grid v).nx = omega (arith, some) in
    let split : (inner_grid v).nx * (i / (inner_grid v).nx) + i % (inner_grid v).nx ≡ i = omega (arith, div-add-mod' i (inner_grid v).nx) in
    ap (sample samples) (sym split)
    ∙ (h.each (i / (inner_grid v).nx) (i % (inner_grid v).nx) below (subst (λ n. i % (inner_grid v).nx < n) (sym width) column)
    ∙ ap (sample (inner_samples v)) (ap (λ k. at.row * (inner_grid v).nx + k) split ∙ (ap (λ r. r * (inner_grid v).nx + i) er ∙ ap (λ w. row * w + i) (sym width))))
