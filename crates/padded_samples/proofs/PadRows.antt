-- Rows of samples in a pad: the pad, a row and the pad, or all pad.
use Rattle.std.proofs.Common.{◌≡◌, ℕ, ◌+◌, ◌-◌, ◌*◌, ◌<◌, ◌≤◌, ◌%◌, ◌/◌, ◌⊎◌, inl, inr, min, eq-zero-or-pos, ℤ, List, length, get_or, set, ltb, refl, sym, ap, ◌∙◌, subst, arith, true}
use Rattle.std.proofs.lemmas.Bool.{ltb-true, ltb-false}
use Rattle.std.proofs.lemmas.Grind.{get_or-set_at}
use Rattle.std.proofs.lemmas.List.{get_or-set_other, length-set}
use Rattle.std.proofs.lemmas.List.FromFn.{length-map-range_with_len}
use Rattle.std.proofs.Math.Nat.{le_of_mul-le-mul_left, mul-le-mul_left}
use Rattle.iso_defs.specs.Grid.{Grid, index, point_count, is_outer}
use Rattle.iso_base.specs.Volume.{sample, grown, padded_sample}
use Rattle.voxel_list.proofs.Padding.{AtEnd, outer_layer, outer_point, outer_row, outer_sample, moved_sample, row_within}
use Rattle.samples.proofs.Lists.{by_test}
use Rattle.padded_samples.specs.Pads.{InPad, IsInnerRow, IsPadRow, padded_at, padded_list}

-- how many samples there are
pub padded_length : (p : InPad) → length (padded_list p) ≡ point_count (grown p.grid)
padded_length p = length-map-range_with_len (padded_sample p.grid p.samples p.pad) 0 (point_count (grown p.grid))

-- a row at an end of its layer
pub pad_row_y : (p : InPad) (y z : ℕ) → y < p.grid.ny + 2 → z < p.grid.nz + 2 → AtEnd (p.grid.ny + 2) y → IsPadRow p (y + (p.grid.ny + 2) * z)
pad_row_y p y z low_y low_z end x low =
    let a : ℕ = (p.grid.nx + 2) * (y + (p.grid.ny + 2) * z) in
    let e : 0 + a + x ≡ a + x = omega arith in
    outer_sample p.grid p.samples p.pad (a + x) (subst (λ q. is_outer (grown p.grid) q ≡ true) e (outer_row p.grid p.samples p.pad y z x low_y low_z end low))

-- a row of a layer at an end
pub pad_row_z : (p : InPad) (y z : ℕ) → y < p.grid.ny + 2 → z < p.grid.nz + 2 → AtEnd (p.grid.nz + 2) z → IsPadRow p (y + (p.grid.ny + 2) * z)
pad_row_z p y z low_y low_z end x low =
    let w : ℕ = p.grid.nx + 2 in
    let h : ℕ = p.grid.ny + 2 in
    outer_sample p.grid p.samples p.pad (w * (y + h * z) + x)
    (subst (λ q. is_outer (grown p.grid) q ≡ true) (place w h y z x) (outer_layer p.grid p.samples p.pad z (w * y + x) low_z end (in_layer w h y x low low_y)))
  where
    place : (w h y z x : ℕ) → 0 + w * (0 + h * z) + (w * y + x) ≡ w * (y + h * z) + x
    place w h y z x = omega arith

    in_layer : (w h y x : ℕ) → x < w → y < h → w * y + x < w * h
    in_layer w h y x low_x low_y =
        let l : w * (y + 1) ≤ w * h = mul-le-mul_left w (omega arith) in
        let e : w * (y + 1) ≡ w * y + w = omega arith in
        omega arith

-- any other row
pub inner_row : (p : InPad) (y z : ℕ) → length p.samples ≡ point_count p.grid → 0 < p.grid.nx → y < p.grid.ny → z < p.grid.nz
    → IsInnerRow p (y + 1 + (p.grid.ny + 2) * (z + 1)) (p.grid.nx * (y + p.grid.ny * z))
inner_row p y z count wide low_y low_z =
    let g = p.grid in
    let w : ℕ = g.nx + 2 in
    let row : ℕ = y + 1 + (g.ny + 2) * (z + 1) in
    let start : ℕ = g.nx * (y + g.ny * z) in
    record {
      within = omega (arith, count, row_within g p.samples p.pad y z start low_y low_z wide (omega arith));
      first = outer_sample g p.samples p.pad (w * row) (subst (λ q. is_outer (grown g) q ≡ true) (zero_on (w * row)) (outer_point g p.samples p.pad 0 (y + 1) (z + 1) (omega arith) (omega arith) (omega arith) (inl refl)));
      each = λ x low. ap (padded_at p) (turn (w * row) (x + 1)) ∙ moved_sample g p.samples p.pad x y z low low_y low_z ∙ ap (sample p.samples) (turn' x start);
      last = outer_sample g p.samples p.pad (w * row + (g.nx + 1)) (subst (λ q. is_outer (grown g) q ≡ true) (turn' (g.nx + 1) (w * row))
          (outer_point g p.samples p.pad (g.nx + 1) (y + 1) (z + 1) (omega arith) (omega arith) (omega arith) (inr (omega arith))));
    }
  where
    zero_on : (a : ℕ) → 0 + a ≡ a
    zero_on a = omega arith

    turn : (a x : ℕ) → a + x ≡ x + a
    turn a x = omega arith

    turn' : (x a : ℕ) → x + a ≡ a + x
    turn' x a = omega arith

-- a row at an end, or inside, of the grid that a view stands on
module _ (p : InPad) (g : Grid) (same : p.grid ≡ g) (y z : ℕ) (low_y : y < g.ny + 2) (low_z : z < g.nz + 2) where
  ny_is : p.grid.ny ≡ g.ny
  ny_is = ap (λ (q : Grid). q.ny) same

  nz_is : p.grid.nz ≡ g.nz
  nz_is = ap (λ (q : Grid). q.nz) same

  pub pad_row_by_y : (y ≡ 0) ⊎ (g.ny < y) → IsPadRow p (y + (p.grid.ny + 2) * z)
  pad_row_by_y end = pad_row_y p y z (omega (arith, ny_is, low_y)) (omega (arith, nz_is, low_z)) (at_end end)
    where
      at_end : (y ≡ 0) ⊎ (g.ny < y) → AtEnd (p.grid.ny + 2) y
      at_end (inl e) = inl e
      at_end (inr h) = inr (omega (arith, h, low_y, ny_is))

  pub pad_row_by_z : (z ≡ 0) ⊎ (g.nz < z) → IsPadRow p (y + (p.grid.ny + 2) * z)
  pad_row_by_z end = pad_row_z p y z (omega (arith, ny_is, low_y)) (omega (arith, nz_is, low_z)) (at_end end)
    where
      at_end : (z ≡ 0) ⊎ (g.nz < z) → AtEnd (p.grid.nz + 2) z
      at_end (inl e) = inl e
      at_end (inr h) = inr (omega (arith, h, low_z, nz_is))

  pub inner_row_by : length p.samples ≡ point_count p.grid → 0 < g.nx → 0 < y → y ≤ g.ny → 0 < z → z ≤ g.nz
      → IsInnerRow p (y + (p.grid.ny + 2) * z) (index p.grid 0 (y - 1) (z - 1))
  inner_row_by count wide some_y most_y some_z most_z =
      let nx_is : p.grid.nx ≡ g.nx = ap (λ (q : Grid). q.nx) same in
      let back_y : y - 1 + 1 ≡ y = omega (arith, some_y) in
      let back_z : z - 1 + 1 ≡ z = omega (arith, some_z) in
      let at : y - 1 + 1 + (p.grid.ny + 2) * (z - 1 + 1) ≡ y + (p.grid.ny + 2) * z
      = ap (λ (k : ℕ). k + (p.grid.ny + 2) * (z - 1 + 1)) back_y ∙ ap (λ (k : ℕ). y + (p.grid.ny + 2) * k) back_z in
      let start : p.grid.nx * (y - 1 + p.grid.ny * (z - 1)) ≡ index p.grid 0 (y - 1) (z - 1) = begin (p.grid.nx * (y - 1 + p.grid.ny * (z - 1))) in
      subst (λ q. IsInnerRow p q (index p.grid 0 (y - 1) (z - 1))) at (subst (IsInnerRow p (y - 1 + 1 + (p.grid.ny + 2) * (z - 1 + 1))) start
      (inner_row p (y - 1) (z - 1) count (omega (arith, wide, nx_is)) (omega (arith, some_y, most_y, ny_is)) (omega (arith, some_z, most_z, nz_is))))
    where
      begin : (a : ℕ) → a ≡ 0 + a
      begin a = omega arith

-- the sample at a place of a row
module _ (p : InPad) (x y z : ℕ) where
  in_row : index (grown p.grid) x y z ≡ (p.grid.nx + 2) * (y + (p.grid.ny + 2) * z) + x
  in_row = turned x ((p.grid.nx + 2) * (y + (p.grid.ny + 2) * z))
    where
      turned : (x a : ℕ) → x + a ≡ a + x
      turned x a = omega arith

  pub in_pad_row : IsPadRow p (y + (p.grid.ny + 2) * z) → x < p.grid.nx + 2 → padded_at p (index (grown p.grid) x y z) ≡ p.pad
  in_pad_row is low = ap (padded_at p) in_row ∙ is x low

  module _ (start : ℕ) (is : IsInnerRow p (y + (p.grid.ny + 2) * z) start) where
    pub at_first : x ≡ 0 → padded_at p (index (grown p.grid) x y z) ≡ p.pad
    at_first e = ap (padded_at p) (in_row ∙ ap (λ (k : ℕ). (p.grid.nx + 2) * (y + (p.grid.ny + 2) * z) + k) e ∙ none ((p.grid.nx + 2) * (y + (p.grid.ny + 2) * z))) ∙ is.first
      where
        none : (a : ℕ) → a + 0 ≡ a
        none a = omega arith

    pub at_last : x ≡ p.grid.nx + 1 → padded_at p (index (grown p.grid) x y z) ≡ p.pad
    at_last e = ap (padded_at p) (in_row ∙ ap (λ (k : ℕ). (p.grid.nx + 2) * (y + (p.grid.ny + 2) * z) + k) e) ∙ is.last

    pub at_inner : 0 < x → x < p.grid.nx + 1 → padded_at p (index (grown p.grid) x y z) ≡ sample p.samples (start + (x - 1))
    at_inner some most =
        let back : x ≡ x - 1 + 1 = omega (arith, some) in
        ap (padded_at p) (in_row ∙ ap (λ (k : ℕ). (p.grid.nx + 2) * (y + (p.grid.ny + 2) * z) + k) back) ∙ is.each (x - 1) (omega (arith, some, most))

-- a part of a row: what lies in the layer before its inner points, those, and what lies behind them
on : (g : Grid) (x y z i : ℕ) → index g x y z + i ≡ index g (x + i) y z
on g x y z i = moved (g.nx * (y + g.ny * z))
  where
    moved : (a : ℕ) → x + a + i ≡ x + i + a
    moved a = omega arith

pub pad_part : (p : InPad) (x y z i : ℕ) → IsPadRow p (y + (p.grid.ny + 2) * z) → x + i < p.grid.nx + 2 → padded_at p (index (grown p.grid) x y z + i) ≡ p.pad
pad_part p x y z i is low = ap (padded_at p) (on (grown p.grid) x y z i) ∙ in_pad_row p (x + i) y z is low

module _ (p : InPad) (x y z start n first last i : ℕ) (is : IsInnerRow p (y + (p.grid.ny + 2) * z) start) (fits : x + n ≤ p.grid.nx + 2) (low : i < n)
    (begun : x ≡ 0 → 0 < n → first ≡ 1) (none : 0 < x → first ≡ 0) (ends : last ≡ min (p.grid.nx + 1 - x) n) where
  abbrev here : ℤ
  here = padded_at p (index (grown p.grid) x y z + i)

  pub before_part : i < first → here ≡ p.pad
  before_part h =
      ap (padded_at p) (on (grown p.grid) x y z i) ∙ elim (eq-zero-or-pos x) [
        | inl e ↦ at_first p (x + i) y z start is (omega (arith, e, begun e (omega (arith, low)), h))
        | inr s ↦ absurd (omega (arith, none s, h))
      ]

  pub after_part : last ≤ i → here ≡ p.pad
  after_part h = ap (padded_at p) (on (grown p.grid) x y z i) ∙ at_last p (x + i) y z start is (omega (arith, ends, h, low, fits))

  pub inner_part : first ≤ i → i < last → here ≡ sample p.samples (start + (x + i - 1))
  inner_part f l =
      let some : 0 < x + i = elim (eq-zero-or-pos x) [
        | inl e ↦ omega (arith, begun e (omega (arith, low)), f)
        | inr s ↦ omega (arith, s)
      ] in
      ap (padded_at p) (on (grown p.grid) x y z i) ∙ at_inner p (x + i) y z start is some (omega (arith, ends, l, fits))

-- a row that was written: the pad at its ends, and its samples between them
pub row_written : (f : ℤ → ℕ) (p : InPad) (row start : ℕ) (new : List ℕ) (from m sign : ℕ) → m ≡ p.grid.nx → IsInnerRow p row start → sign ≡ f p.pad → from + (m + 2) ≤ length new
    → ((i : ℕ) → i < m → get_or new (from + 1 + i) 0 ≡ f (sample p.samples (start + i)))
    → (i : ℕ) → i < p.grid.nx + 2 → get_or (set (set new from sign) (from + 1 + m) sign) (from + i) 0 ≡ f (padded_at p ((p.grid.nx + 2) * row + i))
row_written f p row start new from m sign e is pad room inside i low =
    let first : List ℕ = set new from sign in
    let size : length first ≡ length new = length-set new from sign in
    let w : ℕ = p.grid.nx + 2 in
    by_test (ltb i 1)
    (λ t. let h = ltb-true i 1 t in
    let zero_is : i ≡ 0 = omega (arith, h) in
    let apart : from + i ≡ from + 1 + m → ⊥ = λ q. omega (arith, q, h) in
    get_or-set_other first (from + 1 + m) (from + i) sign 0 apart ∙ get_or-set_at new from (from + i) sign 0 (omega (arith, h)) (omega (arith, room)) ∙ pad
    ∙ ap f (sym is.first ∙ ap (padded_at p) (sym (ap (λ (x : ℕ). w * row + x) zero_is ∙ on (w * row)))))
    (λ t. let h = ltb-false i 1 t in
    by_test (ltb m i)
    (λ u. let k = ltb-true m i u in
    let last_is : i ≡ p.grid.nx + 1 = omega (arith, k, low, e) in
    get_or-set_at first (from + 1 + m) (from + i) sign 0 (omega (arith, last_is, e)) (omega (arith, room, size)) ∙ pad
    ∙ ap f (sym is.last ∙ ap (padded_at p) (sym (ap (λ (x : ℕ). w * row + x) last_is))))
    (λ u. let k = ltb-false m i u in
    let x : ℕ = i - 1 in
    let back : x + 1 ≡ i = omega (arith, h) in
    let place : from + i ≡ from + 1 + x = omega (arith, h) in
    let apart_last : from + i ≡ from + 1 + m → ⊥ = λ q. omega (arith, q, k, h, e, low) in
    let apart_first : from + i ≡ from → ⊥ = λ q. omega (arith, q, h) in
    get_or-set_other first (from + 1 + m) (from + i) sign 0 apart_last ∙ get_or-set_other new from (from + i) sign 0 apart_first
    ∙ ap (λ (j : ℕ). get_or new j 0) place ∙ inside x (omega (arith, k, h))
    ∙ ap f (sym (is.each x (omega (arith, k, h, e))) ∙ ap (λ (j : ℕ). padded_at p (w * row + j)) back)))
  where
    on : (a : ℕ) → a + 0 ≡ a
    on a = omega arith

-- whole rows of a grid: so many come before a place, so many from it on, and no more than the grid has
pub record AreRows (w m start n : ℕ) : Type 0 where
  pub first : w * (start / w) ≡ start
  pub count : w * (n / w) ≡ n
  pub within : start / w + n / w ≤ m

pub whole_rows : (w m start n : ℕ) → 0 < w → start + n ≤ w * m → start % w ≡ 0 → n % w ≡ 0 → AreRows w m start n
whole_rows w m start n some room before whole =
    let first : w * (start / w) ≡ start = omega (arith, before, some) in
    let count : w * (n / w) ≡ n = omega (arith, whole, some) in
    let sum : w * (start / w + n / w) ≡ w * (start / w) + w * (n / w) = omega arith in
    record { first = first; count = count; within = le_of_mul-le-mul_left (omega (arith, sum, first, count, room)) some }
