-- Parts of a box that are replaced.
use Rattle.std.proofs.Common.{◌≡◌, ℕ, suc, ◌+◌, ◌-◌, ◌%◌, ◌<◌, ◌≤◌, true, cond, List, length, refl, sym, ap, subst, ◌∙◌, inl, inr, arith, ℤ}
use Rattle.std.specs.Prelude.{◌&&◌, nat_le, nat_lt}
use Rattle.std.proofs.lemmas.Bool.{cases_Bool, cases_lt, le-leb, lt-leb}
use Rattle.iso_defs.specs.Grid.{Grid, point_count}
use Rattle.iso_base.specs.Points.{index_of}
use Rattle.iso_base.specs.Volume.{Volume, IsInner, sample}
use Rattle.iso_base.specs.declared.point.Point.{Point}
use Rattle.voxel_list.specs.Areas.{Area, area_count, is_in_area}
use Rattle.packed_samples.specs.Runs.{row_set}
use Rattle.brick_store.proofs.RowWriting.{length-row_set, row_set_before, row_set_within, row_set_behind}
use Rattle.edit_log.specs.Log.{IsBox, IsInnerArea, area_grid, area_index, area_place, is_in_part, replaced}
use Rattle.brick_store.proofs.BoxPoints.{area_index_in, area_index_is_in, area_place-area_index, area_index-area_place, row_index}
use Rattle.brick_store.proofs.Replacing.{length-replaced, sample-replaced, replaced_is}

-- a number that is not one of these is in a part that ends behind them where it is in the one before them
but_these : (from k m n : ℕ) → (k ≤ n → n < k + m → ⊥) → nat_le from n && nat_lt n (k + m) ≡ nat_le from n && nat_lt n k
but_these from k m n not = elim (cases_lt n k) [
  | inl l ↦ rw (le-leb (suc n) (k + m) (omega arith), le-leb (suc n) k (omega arith)) refl
  | inr h ↦ elim (cases_lt n (k + m)) [
    | inl l ↦ absurd (not h l)
    | inr b ↦ rw (lt-leb (suc n) (k + m) (omega arith), lt-leb (suc n) k (omega arith)) refl
  ]
]

-- these are in it
one_of_these : (from end n : ℕ) → from ≤ n → n < end → nat_le from n && nat_lt n end ≡ true
one_of_these from end n le low = rw (le-leb from n le, le-leb (suc n) end low) refl

-- the points that follow in a row of the box are replaced, so many as there are values
module _ (g : Grid) (a : Area) (from k : ℕ) (values : List ℤ) (is : IsBox g a) (le : from ≤ k) (some : 0 < length values)
    (end : k + length values ≤ area_count a) (row : k % (area_grid a).nx + length values ≤ (area_grid a).nx) where
  low : k < area_count a
  low = omega (arith, some, end)

  place : (d : ℕ) → d < length values → area_index g a (k + d) ≡ area_index g a k + d
  place d l = row_index g a k d (omega (arith, row, l))

  number_low : (d : ℕ) → d < length values → k + d < area_count a
  number_low d l = omega (arith, end, l)

  -- all of them lie in the grid
  row_in_grid : area_index g a k + length values ≤ point_count g
  row_in_grid =
      let last : length values - 1 < length values = omega (arith, some) in
      let in_grid : area_index g a (k + (length values - 1)) < point_count g = area_index_in g a is (k + (length values - 1)) (number_low (length values - 1) last) in
      behind (area_index g a k) _ (length values) (point_count g) (place (length values - 1) last) in_grid some
    where
      behind : (i j m n : ℕ) → j ≡ i + (m - 1) → j < n → 0 < m → i + m ≤ n
      behind i j m n e h s = omega arith

  others : (p : ℕ) → p < point_count g → ((d : ℕ) → d < length values → p ≡ area_index g a k + d → ⊥)
      → is_in_part g a from (k + length values) p ≡ is_in_part g a from k p
  others p here not = elim (cases_Bool (is_in_area g a p)) [
    | inl t ↦ ap (λ b. is_in_area g a p && b) (but_these from k (length values) (area_place g a p) (λ m l.
        let d : ℕ = area_place g a p - k in
        let less : d < length values = omega (arith, m, l) in
        let number : area_place g a p ≡ k + d = omega (arith, m) in
        not d less (sym (area_index-area_place g a is p here t) ∙ (ap (area_index g a) number ∙ place d less))))
    | inr f ↦ rw f refl
  ]

  these : (d : ℕ) → d < length values → is_in_part g a from (k + length values) (area_index g a k + d) ≡ true
  these d l =
      let inside : is_in_area g a (area_index g a k + d) ≡ true = ap (is_in_area g a) (sym (place d l)) ∙ area_index_is_in g a is (k + d) (number_low d l) in
      let number : area_place g a (area_index g a k + d) ≡ k + d = ap (area_place g a) (sym (place d l)) ∙ area_place-area_index g a is (k + d) (number_low d l) in
      rw inside (ap (λ n. nat_le from n && nat_lt n (k + length values)) number ∙ one_of_these from (k + length values) (k + d) (omega (arith, le)) (omega (arith, l)))

  -- the number of each of them
  pub number_of : (d : ℕ) → d < length values → area_place g a (area_index g a k + d) ≡ k + d
  number_of d l = ap (area_place g a) (sym (place d l)) ∙ area_place-area_index g a is (k + d) (number_low d l)

  pub part_row : (f : ℕ → ℤ) (samples : List ℤ) → length samples ≡ point_count g → ((d : ℕ) → d < length values → sample values d ≡ f (area_index g a k + d))
      → row_set (area_index g a k) values (replaced (is_in_part g a from k) f samples) ≡ replaced (is_in_part g a from (k + length values)) f samples
  part_row f samples count all =
      replaced_is (is_in_part g a from (k + length values)) f samples (row_set i values once) (length-row_set i values once fits ∙ same)
      (λ p low. each p low (subst (λ n. p < n) count low))
    where
      i : ℕ
      i = area_index g a k

      once : List ℤ
      once = replaced (is_in_part g a from k) f samples

      same : length (replaced (is_in_part g a from k) f samples) ≡ length samples
      same = length-replaced (is_in_part g a from k) f samples

      fits : area_index g a k + length values ≤ length (replaced (is_in_part g a from k) f samples)
      fits = omega (arith, row_in_grid, same, count)

      stays : (p : ℕ) → p < length samples → p < point_count g → ((d : ℕ) → d < length values → p ≡ area_index g a k + d → ⊥)
          → sample (replaced (is_in_part g a from k) f samples) p ≡ cond (is_in_part g a from (k + length values) p) (f p) (sample samples p)
      stays p low here not = sample-replaced (is_in_part g a from k) f samples p low ∙ ap (λ b. cond b (f p) (sample samples p)) (sym (others p here not))

      each : (p : ℕ) → p < length samples → p < point_count g
          → sample (row_set (area_index g a k) values (replaced (is_in_part g a from k) f samples)) p
          ≡ cond (is_in_part g a from (k + length values) p) (f p) (sample samples p)
      each p low here = elim (cases_lt p i) [
        | inl l ↦ row_set_before i values once fits p l ∙ stays p low here (λ d h e. absurd (omega (arith, l, e)))
        | inr m ↦ elim (cases_lt p (i + length values)) [
          | inl l ↦ (
              let d : ℕ = p - i in
              let less : d < length values = omega (arith, m, l) in
              let at : p ≡ i + d = omega (arith, m) in
              row_set_within i values once fits p m l ∙ (all d less ∙ (ap f (sym at)
              ∙ sym (ap (λ b. cond b (f p) (sample samples p)) (ap (is_in_part g a from (k + length values)) at ∙ these d less)))))
          | inr h ↦ row_set_behind i values once fits p h ∙ stays p low here (λ d l e. absurd (omega (arith, h, l, e)))
        ]
      ]

-- the same for a volume in which those before them were replaced
pub volume_part_row : (v w u : Volume) (a : Area) (from k : ℕ) (values : List ℤ) (f : ℕ → ℤ) (p : Point) → IsBox v.grid a → length v.samples ≡ point_count v.grid
    → from ≤ k → 0 < length values → k + length values ≤ area_count a → k % (area_grid a).nx + length values ≤ (area_grid a).nx
    → ((d : ℕ) → d < length values → sample values d ≡ f (area_index v.grid a k + d))
    → w ≡ record v { samples = replaced (is_in_part v.grid a from k) f v.samples } → index_of v.grid p ≡ area_index v.grid a k
    → u ≡ record w { samples = row_set (index_of w.grid p) values w.samples }
    → u ≡ record v { samples = replaced (is_in_part v.grid a from (k + length values)) f v.samples }
volume_part_row v w u a from k values f p is count le some end row all so at put =
    put ∙ ap (λ (x : Volume). record x { samples = row_set (index_of x.grid p) values x.samples }) so
    ∙ ap (λ i. record v { samples = row_set i values (replaced (is_in_part v.grid a from k) f v.samples) }) at
    ∙ ap (λ s. record v { samples = s }) (part_row v.grid a from k values is le some end row f v.samples count all)

-- the points that follow in a row of the box hold no pad
pub row_is_inner : (v : Volume) (a : Area) (k count : ℕ) (p : Point) → IsBox v.grid a → IsInnerArea v a → k + count ≤ area_count a
    → k % (area_grid a).nx + count ≤ (area_grid a).nx → index_of v.grid p ≡ area_index v.grid a k → (d : ℕ) → d < count → IsInner v (index_of v.grid p + d)
row_is_inner v a k count p is inner end row at d low =
    let number : k + d < area_count a = omega (arith, end, low) in
    let place : area_index v.grid a (k + d) ≡ index_of v.grid p + d = row_index v.grid a k d (omega (arith, row, low)) ∙ ap (λ n. n + d) (sym at) in
    subst (IsInner v) place (inner (area_index v.grid a (k + d)) (area_index_in v.grid a is (k + d) number) (area_index_is_in v.grid a is (k + d) number))
