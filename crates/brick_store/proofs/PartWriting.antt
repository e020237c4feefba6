-- Rows of values that are put into a part of a brick.
use Rattle.std.proofs.Common.{◌≡◌, ℕ, ◌+◌, ◌-◌, ◌*◌, ◌/◌, ◌%◌, ◌<◌, ◌≤◌, ◌⊎◌, List, length, replicate, refl, sym, ◌∙◌, ap, arith, inl, inr, ℤ, pos}
use Rattle.std.proofs.lemmas.Bool.{cases_lt}
use Rattle.std.proofs.lemmas.List.{get_or-replicate, length-replicate}
use Rattle.iso_defs.specs.Grid.{Grid}
use Rattle.iso_defs.specs.Bricks.{brick_point, brick_start}
use Rattle.iso_base.specs.declared.point.Point.{Point}
use Rattle.iso_base.specs.Volume.{sample}
use Rattle.voxel_list.specs.Areas.{Area, area_count}
use Rattle.brick_store.specs.declared.boxes.Part.{Part}
use Rattle.brick_store.specs.declared.boxes.Source.{Source}
use Rattle.brick_store.specs.declared.boxes.Values.{Values}
use Rattle.brick_store.specs.declared.boxes.Values.TheVariants.{One}
use Rattle.brick_store.specs.Copies.{copy_at, copy_place}
use Rattle.packed_samples.specs.Runs.{row_set}
use Rattle.brick_store.specs.Boxes.{ArePartWritten, IsBox, IsOfBox, IsOfPart, IsPartOf, IsWithin, area_place, one_slice, one_row, value_in}
use Rattle.brick_store.specs.Parts.{AreRowsPut, HasRows, IsPart, row_place, source_value}
use Rattle.brick_store.proofs.BrickNumbers.{IsIn}
use Rattle.brick_store.proofs.BoxWriting.{in_grid, place_is, place_low}
use Rattle.brick_store.proofs.RowWriting.{length-row_set, row_set_before, row_set_within, row_set_behind}
use Rattle.brick_store.proofs.Writing.{place_brick, place_x, place_y, place_z}

-- ---- parts one after the other

-- no offset is meant
pub none_put : (brick : ℕ) (whole : Part) (s : Source) (p : Part) (old : List ℤ) → ((x y z : ℕ) → IsWithin p x y z → ⊥) → AreRowsPut brick whole s p old old
none_put brick whole s p old none = record { count = refl; put = λ x y z w. absurd (none x y z w); others = λ b x y z hx hy hz not. refl }

-- one lot and then another
both_put : (brick : ℕ) (whole : Part) (s : Source) (first second both : Part) (old mid new : List ℤ)
    → ((x y z : ℕ) → IsWithin both x y z → (x < 9) × ((y < 9) × (z < 9)))
    → ((x y z : ℕ) → IsWithin both x y z → IsWithin second x y z ⊎ (IsWithin first x y z × (IsWithin second x y z → ⊥)))
    → ((x y z : ℕ) → IsWithin first x y z → IsWithin both x y z) → ((x y z : ℕ) → IsWithin second x y z → IsWithin both x y z)
    → AreRowsPut brick whole s first old mid → AreRowsPut brick whole s second mid new → AreRowsPut brick whole s both old new
both_put brick whole s first second both old mid new low split left right one two = record {
  count = two.count ∙ one.count;
  put = λ x y z w. elim (split x y z w) [
    | inl i ↦ two.put x y z i
    | inr i ↦ (let l = low x y z w in two.others brick x y z l.0 l.1.0 l.1.1 (λ o. i.1 o.1) ∙ one.put x y z i.0)
  ];
  others = λ b x y z hx hy hz not.
      two.others b x y z hx hy hz (λ o. not (o.0, right x y z o.1)) ∙ one.others b x y z hx hy hz (λ o. not (o.0, left x y z o.1));
}

-- one row of a slice more
pub row_more : (brick : ℕ) (p : Part) (s : Source) (z0 k : ℕ) (old mid new : List ℤ) → IsPart p → z0 < p.z_end → p.y ≤ k → k < p.y_end
    → AreRowsPut brick p s (record (one_slice p z0) { y_end = k }) old mid → AreRowsPut brick p s (one_row p k z0) mid new
    → AreRowsPut brick p s (record (one_slice p z0) { y_end = k + 1 }) old new
row_more brick p s z0 k old mid new is hz le low one two =
    both_put brick p s (record (one_slice p z0) { y_end = k }) (one_row p k z0) (record (one_slice p z0) { y_end = k + 1 }) old mid new
    (λ x y z w. (omega (arith, w.x_end, is.x_most), (omega (arith, w.y_end, low, is.y_most), omega (arith, w.z_end, hz, is.z_most))))
    (λ x y z w. elim (cases_lt y k) [
      | inl l ↦ inr (
        record { x_from = w.x_from; x_end = w.x_end; y_from = w.y_from; y_end = l; z_from = w.z_from; z_end = w.z_end },
        λ o. absurd (omega (arith, o.y_from, l)),
      )
      | inr h ↦ inl (record { x_from = w.x_from; x_end = w.x_end; y_from = h; y_end = w.y_end; z_from = w.z_from; z_end = w.z_end })
    ])
    (λ x y z w. record { x_from = w.x_from; x_end = w.x_end; y_from = w.y_from; y_end = omega (arith, w.y_end); z_from = w.z_from; z_end = w.z_end })
    (λ x y z w. record { x_from = w.x_from; x_end = w.x_end; y_from = omega (arith, w.y_from, le); y_end = w.y_end; z_from = w.z_from; z_end = w.z_end })
    one two

-- one slice of a part more
pub slice_more : (brick : ℕ) (p : Part) (s : Source) (k : ℕ) (old mid new : List ℤ) → IsPart p → p.z ≤ k → k < p.z_end
    → AreRowsPut brick p s (record p { z_end = k }) old mid → AreRowsPut brick p s (one_slice p k) mid new
    → AreRowsPut brick p s (record p { z_end = k + 1 }) old new
slice_more brick p s k old mid new is le low one two =
    both_put brick p s (record p { z_end = k }) (one_slice p k) (record p { z_end = k + 1 }) old mid new
    (λ x y z w. (omega (arith, w.x_end, is.x_most), (omega (arith, w.y_end, is.y_most), omega (arith, w.z_end, low, is.z_most))))
    (λ x y z w. elim (cases_lt z k) [
      | inl l ↦ inr (
        record { x_from = w.x_from; x_end = w.x_end; y_from = w.y_from; y_end = w.y_end; z_from = w.z_from; z_end = l },
        λ o. absurd (omega (arith, o.z_from, l)),
      )
      | inr h ↦ inl (record { x_from = w.x_from; x_end = w.x_end; y_from = w.y_from; y_end = w.y_end; z_from = h; z_end = w.z_end })
    ])
    (λ x y z w. record { x_from = w.x_from; x_end = w.x_end; y_from = w.y_from; y_end = w.y_end; z_from = w.z_from; z_end = omega (arith, w.z_end) })
    (λ x y z w. record { x_from = w.x_from; x_end = w.x_end; y_from = w.y_from; y_end = w.y_end; z_from = omega (arith, w.z_from, le); z_end = w.z_end })
    one two

-- no row and no slice
pub no_row : (brick : ℕ) (p : Part) (s : Source) (z0 : ℕ) (old : List ℤ) → AreRowsPut brick p s (record (one_slice p z0) { y_end = p.y }) old old
no_row brick p s z0 old = none_put brick p s (record (one_slice p z0) { y_end = p.y }) old (λ x y z w. absurd (omega (arith, w.y_from, w.y_end)))

pub no_slice : (brick : ℕ) (p : Part) (s : Source) (old : List ℤ) → AreRowsPut brick p s (record p { z_end = p.z }) old old
no_slice brick p s old = none_put brick p s (record p { z_end = p.z }) old (λ x y z w. absurd (omega (arith, w.z_from, w.z_end)))

-- ---- a row of a part

pub row_put : (brick : ℕ) (p : Part) (s : Source) (y0 z0 start : ℕ) (row old new : List ℤ) → IsPart p → y0 < 9 → z0 < 9
    → start ≡ copy_place brick p.x y0 z0 → length row ≡ p.x_end - p.x → start + length row ≤ length old → new ≡ row_set start row old
    → ((x : ℕ) → p.x ≤ x → x < p.x_end → sample row (x - p.x) ≡ source_value p s x y0 z0)
    → AreRowsPut brick p s (one_row p y0 z0) old new
row_put brick p s y0 z0 start row old new is hy hz at count fits put each = record {
  count = ap length put ∙ length-row_set start row old fits;
  put = λ x y z w.
      let ey : y ≡ y0 = omega (arith, w.y_from, w.y_end) in
      let ez : z ≡ z0 = omega (arith, w.z_from, w.z_end) in
      let place : copy_place brick x y z ≡ start + (x - p.x) = spread x y z ey ez w.x_from in
      ap (λ l. copy_at l brick x y z) put
      ∙ (ap (sample (row_set start row old)) place
      ∙ (row_set_within start row old fits (start + (x - p.x)) (omega arith) (omega (arith, count, w.x_from, w.x_end))
      ∙ (ap (sample row) (omega arith) ∙ (each x w.x_from w.x_end ∙ moved x y z ey ez))));
  others = λ b x y z hx hy' hz' not.
      ap (λ l. copy_at l b x y z) put
      ∙ elim (cases_lt (copy_place b x y z) start) [
        | inl l ↦ row_set_before start row old fits (copy_place b x y z) l
        | inr m ↦ elim (cases_lt (copy_place b x y z) (start + length row)) [
          | inl l ↦ absurd (not (inside b x y z hx hy' hz' m l))
          | inr h ↦ row_set_behind start row old fits (copy_place b x y z) h
        ]
      ];
}
  where
    spread : (x y z : ℕ) → y ≡ y0 → z ≡ z0 → p.x ≤ x → copy_place brick x y z ≡ start + (x - p.x)
    spread x y z ey ez le = omega (arith, ey, ez, at, le)

    moved : (x y z : ℕ) → y ≡ y0 → z ≡ z0 → source_value p s x y0 z0 ≡ source_value p s x y z
    moved x y z ey ez = rw (ey, ez) refl

    inside : (b x y z : ℕ) → x < 9 → y < 9 → z < 9 → start ≤ copy_place b x y z → copy_place b x y z < start + length row → IsOfPart brick (one_row p y0 z0) b x y z
    inside b x y z hx hy' hz' m l =
        let dx : ℕ = copy_place b x y z - start + p.x in
        let u : dx < p.x_end = omega (arith, count, l, m) in
        let v : dx < 9 = omega (arith, u, is.x_most) in
        let same : copy_place b x y z ≡ copy_place brick dx y0 z0 = omega (arith, at, m) in
        let eb : b ≡ brick = sym (place_brick b x y z hx hy' hz') ∙ (ap (λ n. n / 729) same ∙ place_brick brick dx y0 z0 v hy hz) in
        let ex : x ≡ dx = sym (place_x b x y z hx hy' hz') ∙ (ap (λ n. n % 9) same ∙ place_x brick dx y0 z0 v hy hz) in
        let ey : y ≡ y0 = sym (place_y b x y z hx hy' hz') ∙ (ap (λ n. n / 9 % 9) same ∙ place_y brick dx y0 z0 v hy hz) in
        let ez : z ≡ z0 = sym (place_z b x y z hx hy' hz') ∙ (ap (λ n. n / 81 % 9) same ∙ place_z brick dx y0 z0 v hy hz) in (
          eb,
          record {
            x_from = omega (arith, ex);
            x_end = omega (arith, ex, u);
            y_from = omega (arith, ey);
            y_end = omega (arith, ey);
            z_from = omega (arith, ez);
            z_end = omega (arith, ez);
          },
        )

-- ---- the part of a box

pub is_part : (g : Grid) (a : Area) (b : ℕ) (p : Part) → IsPartOf g a b p → IsPart p
is_part g a b p is =
    record { x_order = is.x_order; y_order = is.y_order; z_order = is.z_order; x_most = is.x_most; y_most = is.y_most; z_most = is.z_most }

-- values that are the box's were written as the box wants it
pub part_written : (g : Grid) (a : Area) (values : Values) (brick : ℕ) (p : Part) (s : Source) (old new : List ℤ)
    → ((x y z : ℕ) → IsWithin p x y z → source_value p s x y z ≡ value_in g a values (brick_point g brick x y z))
    → AreRowsPut brick p s p old new → ArePartWritten g a values brick p old new
part_written g a values brick p s old new each is = record {
  count = is.count;
  written = λ b x y z at of.
      ap (λ n. copy_at new n x y z) of.0
      ∙ (is.put x y z of.1 ∙ (each x y z of.1 ∙ ap (λ n. value_in g a values (brick_point g n x y z)) (sym of.0)));
  others = λ b x y z at not. is.others b x y z at.x_low at.y_low at.z_low not;
}

-- one value in nine places
module _ (p : Part) (s : Source) (value : ℤ) (is : IsPart p) (nine : s.values.now ≡ replicate 9 value) (from : s.from ≡ 0) (row : s.row ≡ 0) (slice : s.slice ≡ 0) where
  first_row : (y z : ℕ) → row_place p s y z ≡ 0
  first_row y z = rw (from, row, slice) (none (y - p.y) (z - p.z))
    where
      none : (m n : ℕ) → 0 + m * 0 + n * 0 ≡ 0
      none m n = grind arith

  pub one_has_rows : HasRows p s
  one_has_rows y z y_from y_end z_from z_end = omega (arith, first_row y z, ap length nine, length-replicate 9 value, is.x_most)

  pub one_value_of : (g : Grid) (a : Area) (b x y z : ℕ) → IsWithin p x y z → source_value p s x y z ≡ value_in g a (One value) (brick_point g b x y z)
  one_value_of g a b x y z w =
      ap (λ l. sample l (row_place p s y z + (x - p.x))) nine
      ∙ get_or-replicate 9 (row_place p s y z + (x - p.x)) value (pos 0) (omega (arith, first_row y z, w.x_end, w.x_from, is.x_most))

-- how wide a box is, and how many points a slice of it has, as they are computed
pub widths_are : (a : Area) (low high : Point) → low ≡ a.low → high ≡ a.high
    → (high.x - low.x + 1 ≡ a.high.x - a.low.x + 1)
    × ((high.x - low.x + 1) * (high.y - low.y + 1) ≡ (a.high.x - a.low.x + 1) * (a.high.y - a.low.y + 1))
widths_are a low high el eh = rw (el, eh) (refl, refl)

-- the values of a box
module _ (g : Grid) (a : Area) (b : ℕ) (p : Part) (s : Source) (is : IsBox g a) (part : IsPartOf g a b p)
    (from : s.from ≡ area_place g a (brick_point g b p.x p.y p.z)) (row : s.row ≡ a.high.x - a.low.x + 1)
    (slice : s.slice ≡ (a.high.x - a.low.x + 1) * (a.high.y - a.low.y + 1)) where
  -- the number in the box of one of its points
  number_of : (x y z : ℕ) → IsWithin p x y z
      → area_place g a (brick_point g b x y z)
      ≡ brick_start g b 0 + x - a.low.x + (a.high.x - a.low.x + 1) * (brick_start g b 1 + y - a.low.y + (a.high.y - a.low.y + 1) * (brick_start g b 2 + z - a.low.z))
  number_of x y z w =
      let i : IsIn g b x y z = in_grid g a b p y z is part w.y_from w.y_end w.z_from w.z_end x w.x_from w.x_end in
      place_is g a a.low a.high (brick_start g b 0 + x) (brick_start g b 1 + y) (brick_start g b 2 + z) refl refl i.x_in i.y_in i.z_in

  pub place_of : (x y z : ℕ) → IsWithin p x y z → area_place g a (brick_point g b x y z) ≡ row_place p s y z + (x - p.x)
  place_of x y z w =
      let first : IsWithin p p.x p.y p.z = record {
        x_from = omega arith;
        x_end = part.x_order;
        y_from = omega arith;
        y_end = part.y_order;
        z_from = omega arith;
        z_end = part.z_order;
      } in
      let of : IsOfBox g a b p.x p.y p.z = part.each p.x p.y p.z first.x_from first.x_end first.y_from first.y_end first.z_from first.z_end in
      number_of x y z w
      ∙ (spread (brick_start g b 0 + x - a.low.x) (brick_start g b 0 + p.x - a.low.x) (x - p.x)
      (brick_start g b 1 + y - a.low.y) (brick_start g b 1 + p.y - a.low.y) (y - p.y)
      (brick_start g b 2 + z - a.low.z) (brick_start g b 2 + p.z - a.low.z) (z - p.z)
      (a.high.x - a.low.x + 1) (a.high.y - a.low.y + 1)
      (omega (arith, of.x_from, w.x_from)) (omega (arith, of.y_from, w.y_from)) (omega (arith, of.z_from, w.z_from))
      ∙ rw (from, row, slice) (ap (λ n. n + (y - p.y) * (a.high.x - a.low.x + 1) + (z - p.z) * ((a.high.x - a.low.x + 1) * (a.high.y - a.low.y + 1)) + (x - p.x))
      (sym (number_of p.x p.y p.z first))))
    where
      plain : (l m u s t q w d : ℕ) → l + m + w * (u + s + d * (t + q)) ≡ l + w * (u + d * t) + s * w + q * (w * d) + m
      plain l m u s t q w d = grind arith

      spread : (h l m v u s r t q w d : ℕ) → h ≡ l + m → v ≡ u + s → r ≡ t + q → h + w * (v + d * r) ≡ l + w * (u + d * t) + s * w + q * (w * d) + m
      spread h l m v u s r t q w d eh ev er = rw (eh, ev, er) (plain l m u s t q w d)

  pub each_has_rows : length s.values.now ≡ area_count a → HasRows p s
  each_has_rows many y z y_from y_end z_from z_end =
      let last : ℕ = p.x_end - 1 in
      let low : last < p.x_end = omega (arith, part.x_order) in
      let w : IsWithin p last y z = record {
        x_from = omega (arith, part.x_order);
        x_end = low;
        y_from = y_from;
        y_end = y_end;
        z_from = z_from;
        z_end = z_end;
      } in
      omega (arith, place_of last y z w, place_low g a b p y z is part y_from y_end z_from z_end last w.x_from w.x_end, many, part.x_order)

  pub each_value_of : (x y z : ℕ) → IsWithin p x y z → source_value p s x y z ≡ sample s.values.now (area_place g a (brick_point g b x y z))
  each_value_of x y z w = ap (sample s.values.now) (sym (place_of x y z w))
