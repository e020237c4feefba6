-- Some slices of a grid: their points, edges and crossing edges are those of the whole, moved by a constant.
use Rattle.std.proofs.Common.{◌≡◌, ℕ, zero, suc, ◌+◌, ◌*◌, ◌/◌, ◌%◌, ◌<◌, ◌≤◌, Bool, true, ◌&&◌, cond, List, ◌∷◌, map, refl, sym, ap, ap₂, ◌∙◌, inl, inr, arith, ltb, ℤ, false, add-zero}
use Rattle.std.specs.List.{filter, range_with_len}
use Rattle.std.proofs.lemmas.Bool.{lt-ltb, le-ltb, cases_lt}
use Rattle.std.proofs.lemmas.Nat.{mod_below, div_below}
use Rattle.std.proofs.Math.Nat.{mod-eq_of_lt}
use Rattle.iso_defs.specs.Grid.{Grid, stride, coordinate, has_next, is_cell, is_above, differ, is_crossing, IsSolid}
use Rattle.iso_defs.proofs.Coordinates.{x_moved, y_moved, z_moved}
use Rattle.mesh_laws.proofs.Padded.{by_three}
use Rattle.slab_laws.specs.Slabs.{slices, slice_size}

-- what passes a test among numbers that are moved
map_cond : (f : ℕ → ℕ) (t : Bool) (x : ℕ) (xs : List ℕ)
    → map f (cond t (x ∷ xs) xs) ≡ cond t (f x ∷ map f xs) (map f xs)
map_cond f true x xs = refl
map_cond f false x xs = refl

pub filter_moved : (p q : ℕ → Bool) (c b n : ℕ) → ((x : ℕ) → b ≤ x → x < b + n → q x ≡ p (x + c))
    → map (λ x. x + c) (filter q (range_with_len b n)) ≡ filter p (range_with_len (b + c) n)
filter_moved p q c b zero h = refl
filter_moved p q c b (suc n) h =
    let rest : map (λ x. x + c) (filter q (range_with_len (b + 1) n)) ≡ filter p (range_with_len (b + c + 1) n)
    = filter_moved p q c (b + 1) n (λ x low high. h x (omega arith) (omega arith))
    ∙ ap (λ a. filter p (range_with_len a n)) (turn b c) in
    ap (λ t. map (λ x. x + c) (cond t (b ∷ filter q (range_with_len (b + 1) n)) (filter q (range_with_len (b + 1) n))))
    (h b (omega arith) (omega arith))
    ∙ (map_cond (λ x. x + c) (p (b + c)) b (filter q (range_with_len (b + 1) n))
    ∙ ap (λ l. cond (p (b + c)) ((b + c) ∷ l) l) rest)
  where
    turn : (b c : ℕ) → b + 1 + c ≡ b + c + 1
    turn b c = omega arith

pub filter_alike : (p q : ℕ → Bool) (b n : ℕ) → ((x : ℕ) → b ≤ x → x < b + n → q x ≡ p x)
    → filter q (range_with_len b n) ≡ filter p (range_with_len b n)
filter_alike p q b zero h = refl
filter_alike p q b (suc n) h =
    ap₂ (λ t l. cond {A = List ℕ} t (b ∷ l) l) (h b (omega arith) (omega arith))
    (filter_alike p q (b + 1) n (λ x low high. h x (omega arith) (omega arith)))

-- steps along an axis are the same
pub same_stride : (g : Grid) (n a : ℕ) → a < 3 → stride (slices g n) a ≡ stride g a
same_stride g n a l = by_three (λ a. stride (slices g n) a ≡ stride g a) refl refl refl a l

module _ (g : Grid) (solid : IsSolid g) where
  some : (n q : ℕ) → q < n * slice_size g → 0 < slice_size g
  some n q h = nonzero (slice_size g) n q h
    where
      nonzero : (k c n : ℕ) → n < c * k → 0 < k
      nonzero zero c n h = absurd (let e : c * 0 ≡ 0 = omega arith in omega arith)
      nonzero (suc k) c n h = omega arith

  -- the height of a point
  pub height : (n q : ℕ) → q < n * slice_size g → coordinate (slices g n) 2 q ≡ q / slice_size g
  height n q h = mod-eq_of_lt (div_below q (slice_size g) n (some n q h) h)

  pub height_low : (n q : ℕ) → q < n * slice_size g → q / slice_size g < n
  height_low n q h = div_below q (slice_size g) n (some n q h) h

  -- points of n slices, z slices further up
  module _ (n z : ℕ) (fits : z + n ≤ g.nz) (q : ℕ) (low : q < n * slice_size g) where
    turned : q + (0 * stride g 0 + (0 * stride g 1 + z * stride g 2)) ≡ q + slice_size g * z
    turned = omega arith

    x_fits : coordinate g 0 q + 0 < g.nx
    x_fits = let m : coordinate g 0 q < g.nx = mod_below (q / 1) g.nx solid.x in omega arith

    y_fits : coordinate g 1 q + 0 < g.ny
    y_fits = let m : coordinate g 1 q < g.ny = mod_below (q / g.nx) g.ny solid.y in omega arith

    -- its height in the whole grid
    pub whole_height : coordinate g 2 q ≡ q / slice_size g
    whole_height = mod-eq_of_lt (let m : q / slice_size g < n = height_low n q low in omega arith)

    z_fits : coordinate g 2 q + z < g.nz
    z_fits = let m : q / slice_size g < n = height_low n q low in omega (arith, whole_height)

    pub same_x : coordinate g 0 (q + slice_size g * z) ≡ coordinate g 0 q
    same_x = ap (coordinate g 0) (sym turned) ∙ (x_moved g q 0 0 z x_fits y_fits z_fits ∙ add-zero (coordinate g 0 q))

    pub same_y : coordinate g 1 (q + slice_size g * z) ≡ coordinate g 1 q
    same_y = ap (coordinate g 1) (sym turned) ∙ (y_moved g q 0 0 z x_fits y_fits z_fits ∙ add-zero (coordinate g 1 q))

    pub higher : coordinate g 2 (q + slice_size g * z) ≡ q / slice_size g + z
    higher = ap (coordinate g 2) (sym turned) ∙ (z_moved g q 0 0 z x_fits y_fits z_fits ∙ ap (λ k. k + z) whole_height)

    -- whether it has a neighbour above: where these are the uppermost slices, or it is not in the last of them
    pub next_at_top : z + n ≡ g.nz → has_next (slices g n) 2 q ≡ has_next g 2 (q + slice_size g * z)
    next_at_top e =
        ap (λ k. ltb (k + 1) n) (height n q low)
        ∙ (same (q / slice_size g) ∙ sym (ap (λ k. ltb (k + 1) g.nz) higher))
      where
        same : (k : ℕ) → ltb (k + 1) n ≡ ltb (k + z + 1) g.nz
        same k = elim (cases_lt (k + 1) n) [
          | inl l ↦ lt-ltb _ _ l ∙ sym (lt-ltb _ _ (omega arith))
          | inr l ↦ le-ltb _ _ l ∙ sym (le-ltb _ _ (omega arith))
        ]

    pub next_below : q / slice_size g + 1 < n → has_next (slices g n) 2 q ≡ has_next g 2 (q + slice_size g * z)
    next_below l =
        ap (λ k. ltb (k + 1) n) (height n q low) ∙ (lt-ltb _ _ l ∙ sym (lt-ltb _ _ (omega (arith, higher))))

    pub same_next : has_next (slices g n) 2 q ≡ has_next g 2 (q + slice_size g * z) → (a : ℕ) → a < 3
        → has_next (slices g n) a q ≡ has_next g a (q + slice_size g * z)
    same_next up a l = by_three (λ a. has_next (slices g n) a q ≡ has_next g a (q + slice_size g * z))
        (ap (λ c. ltb (c + 1) g.nx) (sym same_x)) (ap (λ c. ltb (c + 1) g.ny) (sym same_y)) up a l

  -- so an edge is crossing where the edge that it is in the whole grid is
  pub same_crossing : (s t : ℕ → ℤ) (n z m : ℕ) → ((p : ℕ) → t p ≡ s (p + slice_size g * z)) → z + n ≤ g.nz
      → m / 3 < n * slice_size g
      → has_next (slices g n) 2 (m / 3) ≡ has_next g 2 (m / 3 + slice_size g * z)
      → is_crossing (slices g n) t m ≡ is_crossing g s (m + 3 * (slice_size g * z))
  same_crossing s t n z m crop fits low up =
      let k : ℕ = slice_size g * z in
      let lower : (m + 3 * k) / 3 ≡ m / 3 + k = omega arith in
      let axis : (m + 3 * k) % 3 ≡ m % 3 = omega arith in
      let small : m % 3 < 3 = omega arith in
      let test : ℕ → ℕ → Bool = λ p a. has_next g a p && differ (is_above (s p)) (is_above (s (p + stride g a))) in
      let here : has_next (slices g n) (m % 3) (m / 3) ≡ has_next g (m % 3) (m / 3 + k)
      = same_next n z fits (m / 3) low up (m % 3) small in
      let upper : t (m / 3 + stride (slices g n) (m % 3)) ≡ s (m / 3 + k + stride g (m % 3))
      = crop (m / 3 + stride (slices g n) (m % 3)) ∙ ap s (omega (arith, same_stride g n (m % 3) small)) in
      ap (λ b. b && differ (is_above (t (m / 3))) (is_above (t (m / 3 + stride (slices g n) (m % 3))))) here
      ∙ (ap (λ v. has_next g (m % 3) (m / 3 + k) && differ (is_above v)
      (is_above (t (m / 3 + stride (slices g n) (m % 3))))) (crop (m / 3))
      ∙ (ap (λ v. has_next g (m % 3) (m / 3 + k) && differ (is_above (s (m / 3 + k))) (is_above v)) upper
      ∙ sym (ap (λ p. test p ((m + 3 * k) % 3)) lower ∙ ap (test (m / 3 + k)) axis)))

  -- and a cell is one where the cell that it is there is
  pub same_cell : (n z q : ℕ) → z + n ≤ g.nz → q < n * slice_size g
      → has_next (slices g n) 2 q ≡ has_next g 2 (q + slice_size g * z)
      → is_cell (slices g n) q ≡ is_cell g (q + slice_size g * z)
  same_cell n z q fits low up =
      let next : (a : ℕ) → a < 3 → has_next (slices g n) a q ≡ has_next g a (q + slice_size g * z)
      = same_next n z fits q low up in
      ap₂ (λ t u. t && u) (ap₂ (λ t u. t && u) (next 0 (omega arith)) (next 1 (omega arith))) up
