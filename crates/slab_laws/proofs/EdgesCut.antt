-- The crossing edges and the cells of a grid are those of a lower slab, without the last two slices, and those above.
use Rattle.std.proofs.Common.{◌≡◌, ℕ, ◌+◌, ◌-◌, ◌*◌, ◌/◌, ◌<◌, ◌≤◌, Bool, List, ◌++◌, map, refl, sym, ap, ◌∙◌, arith, ℤ, length, length-append}
use Rattle.std.proofs.lemmas.List.{length-map}
use Rattle.std.specs.List.{filter, range_with_len}
use Rattle.std.proofs.lemmas.List.Elements.{filter-append}
use Rattle.iso_defs.specs.Grid.{Grid, name_bound, is_crossing, IsSolid}
use Rattle.iso_defs.specs.Scratch.{crossing_edges}
use Rattle.iso_defs.proofs.Ranges.{range_append}
use Rattle.slab_laws.specs.Slabs.{slices, slice_size}
use Rattle.slab_laws.proofs.Parts.{above, third, stays}
use Rattle.slab_laws.proofs.Slices.{filter_moved, filter_alike, same_crossing, next_at_top, next_below, height_low}

-- numbers of three each, and of one: what passes a test below a bound, and above it
pub cut : (p : ℕ → Bool) (m k : ℕ) → filter p (range_with_len 0 (m + k))
    ≡ filter p (range_with_len 0 m) ++ filter p (range_with_len (0 + m) k)
cut p m k = ap (filter p) (range_append 0 m k) ∙ filter-append p (range_with_len 0 m) (range_with_len (0 + m) k)

module _ (g : Grid) (solid : IsSolid g) (s : ℕ → ℤ) (z : ℕ) (fits : z + 2 ≤ g.nz) where
  -- below: edges that do not begin in the last slice
  pub below_top : (n : ℕ) → n < 3 * (slice_size g * (z + 1)) → is_crossing (slices g (z + 2)) s n ≡ is_crossing g s n
  below_top n l =
      let low : n / 3 < (z + 2) * slice_size g = inside (g.nx * g.ny) z n l in
      let slice : n / 3 / slice_size g < z + 1 = height_low g solid (z + 1) (n / 3) (own (g.nx * g.ny) z n l) in
      same_crossing g solid s s (z + 2) 0 n (λ p. ap s (stays (slice_size g) p)) (omega arith) low
      (next_below g solid (z + 2) 0 (omega arith) (n / 3) low (omega arith))
      ∙ ap (is_crossing g s) (more (slice_size g) n)
    where
      inside : (a z n : ℕ) → n < 3 * (a * (z + 1)) → n / 3 < (z + 2) * a
      inside a z n l = let e : (z + 2) * a ≡ a * (z + 1) + a = omega arith in omega arith

      own : (a z n : ℕ) → n < 3 * (a * (z + 1)) → n / 3 < (z + 1) * a
      own a z n l = let e : (z + 1) * a ≡ a * (z + 1) = omega arith in omega arith

      more : (a n : ℕ) → n + 3 * (a * 0) ≡ n
      more a n = omega arith

  -- the own edges of the lower slab: those that begin below slice z
  unfoldable pub own_edges : List ℕ
  own_edges = filter (is_crossing (slices g (z + 2)) s) (range_with_len 0 (3 * (slice_size g * z)))

  pub edges_cut : crossing_edges g s ≡ own_edges ++ map (λ n. n + 3 * (slice_size g * z))
      (crossing_edges (slices g (g.nz - z)) (above g z s))
  unfolding own_edges
  edges_cut =
      let k : ℕ = 3 * (slice_size g * z) in
      let r : ℕ = g.nz - z in
      let whole : g.nz ≡ z + r = omega arith in
      let total : name_bound g ≡ k + name_bound (slices g r)
      = ap (λ n. 3 * (g.nx * g.ny * n)) whole ∙ spread g.nx g.ny z r in
      let lower : filter (is_crossing (slices g (z + 2)) s) (range_with_len 0 k)
      ≡ filter (is_crossing g s) (range_with_len 0 k)
      = filter_alike (is_crossing g s) (is_crossing (slices g (z + 2)) s) 0 k
      (λ n _ l. below_top n (further (g.nx * g.ny) z n (omega arith))) in
      let upper : map (λ n. n + k) (crossing_edges (slices g r) (above g z s))
      ≡ filter (is_crossing g s) (range_with_len (0 + k) (name_bound (slices g r)))
      = filter_moved (is_crossing g s) (is_crossing (slices g r) (above g z s)) k 0 (name_bound (slices g r))
      (λ n _ l. above_alike n (omega arith)) in
      ap (λ b. filter (is_crossing g s) (range_with_len 0 b)) total
      ∙ (cut (is_crossing g s) k (name_bound (slices g r))
      ∙ (ap (λ l. l ++ filter (is_crossing g s) (range_with_len (0 + k) (name_bound (slices g r)))) (sym lower)
      ∙ ap (λ l. filter (is_crossing (slices g (z + 2)) s) (range_with_len 0 k) ++ l) (sym upper)))
    where
      spread : (a b z r : ℕ) → 3 * (a * b * (z + r)) ≡ 3 * (a * b * z) + 3 * (a * b * r)
      spread a b z r = omega arith

      further : (a z n : ℕ) → n < 3 * (a * z) → n < 3 * (a * (z + 1))
      further a z n l = let e : a * (z + 1) ≡ a * z + a = omega arith in omega arith

      -- above: the uppermost slices
      above_alike : (n : ℕ) → n < name_bound (slices g (g.nz - z))
          → is_crossing (slices g (g.nz - z)) (above g z s) n ≡ is_crossing g s (n + 3 * (slice_size g * z))
      above_alike n l =
          let low : n / 3 < (g.nz - z) * slice_size g = third (g.nx * g.ny) (g.nz - z) n l in
          same_crossing g solid s (above g z s) (g.nz - z) z n (λ p. refl) (omega arith) low
          (next_at_top g solid (g.nz - z) z (omega arith) (n / 3) low (omega arith))

  -- so many edges the whole has
  pub edge_sum : length (crossing_edges g s)
      ≡ length own_edges + length (crossing_edges (slices g (g.nz - z)) (above g z s))
  edge_sum =
      let up : List ℕ = crossing_edges (slices g (g.nz - z)) (above g z s) in
      ap length edges_cut
      ∙ (length-append own_edges (map (λ n. n + 3 * (slice_size g * z)) up)
      ∙ ap (λ n. length own_edges + n) (length-map up (λ n. n + 3 * (slice_size g * z))))
