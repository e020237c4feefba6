-- The cells of a grid are those of a lower slab below its last two slices, and those above.
use Rattle.std.proofs.Common.{◌≡◌, ℕ, ◌+◌, ◌-◌, ◌*◌, ◌/◌, ◌<◌, ◌≤◌, List, ◌++◌, map, sym, ap, ◌∙◌, arith}
use Rattle.std.specs.List.{filter, range_with_len}
use Rattle.iso_defs.specs.Grid.{Grid, point_count, is_cell, cells, IsSolid}
use Rattle.slab_laws.specs.Slabs.{slices, slice_size}
use Rattle.slab_laws.proofs.Slices.{filter_moved, filter_alike, same_cell, next_at_top, next_below, height_low}
use Rattle.slab_laws.proofs.EdgesCut.{cut}

module _ (g : Grid) (solid : IsSolid g) (z : ℕ) (fits : z + 2 ≤ g.nz) where
  unfoldable pub own_cells : List ℕ
  own_cells = filter (is_cell (slices g (z + 2))) (range_with_len 0 (slice_size g * z))

  pub cells_cut : cells g ≡ own_cells ++ map (λ q. q + slice_size g * z) (cells (slices g (g.nz - z)))
  unfolding own_cells
  cells_cut =
      let k : ℕ = slice_size g * z in
      let r : ℕ = g.nz - z in
      let whole : g.nz ≡ z + r = omega arith in
      let total : point_count g ≡ k + point_count (slices g r)
      = ap (λ n. g.nx * g.ny * n) whole ∙ spread g.nx g.ny z r in
      let lower : filter (is_cell (slices g (z + 2))) (range_with_len 0 k) ≡ filter (is_cell g) (range_with_len 0 k)
      = filter_alike (is_cell g) (is_cell (slices g (z + 2))) 0 k (λ q _ l. below_alike q (omega arith)) in
      let upper : map (λ q. q + k) (cells (slices g r))
      ≡ filter (is_cell g) (range_with_len (0 + k) (point_count (slices g r)))
      = filter_moved (is_cell g) (is_cell (slices g r)) k 0 (point_count (slices g r))
      (λ q _ l. above_alike q (omega arith)) in
      ap (λ b. filter (is_cell g) (range_with_len 0 b)) total
      ∙ (cut (is_cell g) k (point_count (slices g r))
      ∙ (ap (λ l. l ++ filter (is_cell g) (range_with_len (0 + k) (point_count (slices g r)))) (sym lower)
      ∙ ap (λ l. filter (is_cell (slices g (z + 2))) (range_with_len 0 k) ++ l) (sym upper)))
    where
      spread : (a b z r : ℕ) → a * b * (z + r) ≡ a * b * z + a * b * r
      spread a b z r = omega arith

      turned : (a r n : ℕ) → n < a * r → n < r * a
      turned a r n l = omega arith

      above_alike : (q : ℕ) → q < point_count (slices g (g.nz - z))
          → is_cell (slices g (g.nz - z)) q ≡ is_cell g (q + slice_size g * z)
      above_alike q l =
          let low : q < (g.nz - z) * slice_size g = turned (g.nx * g.ny) (g.nz - z) q l in
          same_cell g solid (g.nz - z) z q (omega arith) low
          (next_at_top g solid (g.nz - z) z (omega arith) q low (omega arith))

      below_alike : (q : ℕ) → q < slice_size g * z → is_cell (slices g (z + 2)) q ≡ is_cell g q
      below_alike q l =
          let low : q < (z + 2) * slice_size g = wider (g.nx * g.ny) z q l in
          let slice : q / slice_size g < z = height_low g solid z q (turned (g.nx * g.ny) z q l) in
          same_cell g solid (z + 2) 0 q (omega arith) low
          (next_below g solid (z + 2) 0 (omega arith) q low (omega arith)) ∙ ap (is_cell g) (none (slice_size g) q)
        where
          wider : (a z n : ℕ) → n < a * z → n < (z + 2) * a
          wider a z n l = let e : (z + 2) * a ≡ a * z + 2 * a = omega arith in omega arith

          none : (a q : ℕ) → q + a * 0 ≡ q
          none a q = omega arith
