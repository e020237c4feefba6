-- Each brick is asked for at most 64 rows.
use Rattle.std.proofs.Common.{◌≡◌, ℕ, zero, suc, ◌+◌, ◌-◌, ◌*◌, ◌/◌, ◌<◌, ◌≤◌, sym, ◌∙◌, ap, arith}
use Rattle.iso_defs.specs.Bricks.{brick_count, bricks_along}
use Rattle.iso_base.specs.Volume.{IsGrid}
use Rattle.flat_mesh.specs.Lattice.{Leveled, heights}
use Rattle.brick_rows.specs.Bricks.{brick_at}
use Rattle.brick_rows.specs.Named.{Named, asked_along, asked_among}
use Rattle.brick_rows.proofs.Asked.{asked_more, asked_none}
use Rattle.brick_rows.proofs.Uptos.{eighths, upto, upto_scaled, zeros}

without_last : (f : ℕ → ℕ) (n : ℕ) → 0 < n → f (n - 1) ≡ 0 → upto f n ≡ upto f (n - 1)
without_last f zero some none = absurd (omega arith)
without_last f (suc n) some none =
    let e : suc n - 1 ≡ n = omega arith in
    let last : f n ≡ 0 = ap f (sym e) ∙ none in
    sum_of (upto f n) (f n) last ∙ ap (upto f) (sym e)
  where
    sum_of : (a b : ℕ) → b ≡ 0 → a + b ≡ a
    sum_of a b h = omega arith

module _ (v : Leveled) (is : IsGrid v.grid) (names : Named) where
  abbrev nbx : ℕ
  nbx = bricks_along v.grid 0

  abbrev nby : ℕ
  nby = bricks_along v.grid 1

  abbrev nbz : ℕ
  nbz = bricks_along v.grid 2

  abbrev among : ℕ → ℕ → ℕ
  among a n = asked_among v.grid (heights v) names a n

  abbrev line : ℕ → ℕ → ℕ
  line bz by = among (nbx * (by + nby * bz)) nbx

  abbrev slice : ℕ → ℕ
  slice bz = among (nbx * nby * bz) (nbx * nby)

  lines_are : (bz m : ℕ) → upto (line bz) m ≡ among (nbx * nby * bz) (nbx * m)
  lines_are bz zero = sym (ap (among (nbx * nby * bz)) zero_out ∙ asked_none v.grid (heights v) names (nbx * nby * bz))
    where
      zero_out : nbx * 0 ≡ 0
      zero_out = omega arith
  lines_are bz (suc m) =
      let e : nbx * suc m ≡ nbx * m + nbx = omega arith in
      let a : nbx * nby * bz + nbx * m ≡ nbx * (m + nby * bz) = omega arith in
      ap (λ k. k + line bz m) (lines_are bz m)
      ∙ sym (ap (among (nbx * nby * bz)) e ∙ (asked_more v.grid (heights v) names (nbx * nby * bz) (nbx * m) nbx ∙ ap (λ b. among (nbx * nby * bz) (nbx * m) + among b nbx) a))

  slices_are : (m : ℕ) → upto slice m ≡ among 0 (nbx * nby * m)
  slices_are zero = sym (ap (among 0) zero_out ∙ asked_none v.grid (heights v) names 0)
    where
      zero_out : nbx * nby * 0 ≡ 0
      zero_out = omega arith
  slices_are (suc m) =
      let e : nbx * nby * suc m ≡ nbx * nby * m + nbx * nby = omega arith in
      let z : 0 + nbx * nby * m ≡ nbx * nby * m = omega arith in
      ap (λ k. k + slice m) (slices_are m)
      ∙ sym (ap (among 0) e ∙ (asked_more v.grid (heights v) names 0 (nbx * nby * m) (nbx * nby) ∙ ap (λ b. among 0 (nbx * nby * m) + among b (nbx * nby)) z))

  one_row : (z y : ℕ) → y + 1 < v.grid.ny → z + 1 < v.grid.nz → asked_along v.grid (heights v) names y z ≡ line (z / 8) (y / 8)
  one_row z y hy hz =
      let by : brick_at v.grid 1 y ≡ y / 8 = omega arith in
      let bz : brick_at v.grid 2 z ≡ z / 8 = omega arith in
      ap (λ b. among (nbx * (b + nby * brick_at v.grid 2 z)) nbx) by ∙ ap (λ b. among (nbx * (y / 8 + nby * b)) nbx) bz

  -- how many bricks each row of points asks: the last one of a slice begins no row of cells, and neither do those of the last slice
  module _ (asked : ℕ → ℕ → ℕ) (each : (z y : ℕ) → y + 1 < v.grid.ny → z + 1 < v.grid.nz → asked z y ≡ asked_along v.grid (heights v) names y z)
      (last_row : (z y : ℕ) → y + 1 ≡ v.grid.ny → asked z y ≡ 0) (last_slice : (z y : ℕ) → y < v.grid.ny → z + 1 ≡ v.grid.nz → asked z y ≡ 0) where
    abbrev in_slice : ℕ → ℕ
    in_slice z = upto (asked z) v.grid.ny

    slice_few : (z : ℕ) → z + 1 < v.grid.nz → in_slice z ≤ 8 * slice (z / 8)
    slice_few z hz =
        let least = is.y.least in
        let cut : in_slice z ≡ upto (asked z) (v.grid.ny - 1) = without_last (asked z) v.grid.ny (omega arith) (last_row z (v.grid.ny - 1) (omega arith)) in
        let few : upto (asked z) (v.grid.ny - 1) ≤ 8 * upto (line (z / 8)) nby
        = eighths (asked z) (line (z / 8)) (v.grid.ny - 1) nby (λ y low. let e = each z y (omega arith) hz in let l = one_row z y (omega arith) hz in omega arith) (omega arith) in
        let all : upto (line (z / 8)) nby ≡ slice (z / 8) = lines_are (z / 8) nby in
        omega arith

    -- all rows together
    pub rows_asked : upto in_slice v.grid.nz ≤ 64 * asked_among v.grid (heights v) names 0 (brick_count v.grid)
    rows_asked =
        let least = is.z.least in
        let last : in_slice (v.grid.nz - 1) ≡ 0 = zeros (asked (v.grid.nz - 1)) v.grid.ny (λ y low. last_slice (v.grid.nz - 1) y low (omega arith)) in
        let cut : upto in_slice v.grid.nz ≡ upto in_slice (v.grid.nz - 1) = without_last in_slice v.grid.nz (omega arith) last in
        let few : upto in_slice (v.grid.nz - 1) ≤ 8 * upto (λ b. 8 * slice b) nbz
        = eighths in_slice (λ b. 8 * slice b) (v.grid.nz - 1) nbz (λ z low. slice_few z (omega arith)) (omega arith) in
        let scaled : upto (λ b. 8 * slice b) nbz ≡ 8 * upto slice nbz = upto_scaled slice nbz in
        let all : upto slice nbz ≡ among 0 (nbx * nby * nbz) = slices_are nbz in
        omega arith
