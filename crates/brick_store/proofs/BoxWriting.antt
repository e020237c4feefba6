-- Samples of a box that are written in each brick that holds them.
use Rattle.std.proofs.Common.{◌≡◌, ℕ, ◌+◌, ◌-◌, ◌*◌, ◌<◌, ◌≤◌, ◌⊎◌, Bool, true, false, cond, List, length, refl, sym, ◌∙◌, ap, subst, arith, inl, inr, ℤ, min}
use Rattle.std.proofs.lemmas.Bool.{cases_Bool, le-leb}
use Rattle.iso_defs.specs.Grid.{Grid, index, point_count}
use Rattle.iso_defs.specs.Bricks.{bricks_along, brick_start, brick_point}
use Rattle.iso_defs.proofs.Points.{x_index, y_index, z_index, index_in}
use Rattle.iso_base.specs.Volume.{IsGrid, sample}
use Rattle.iso_base.specs.declared.point.Point.{Point}
use Rattle.iso_base.specs.Stored.{StandsFor}
use Rattle.voxel_list.specs.Areas.{Area, IsArea, area_count, is_in_area}
use Rattle.brick_store.specs.declared.boxes.Part.{Part}
use Rattle.brick_store.specs.declared.boxes.Values.{Values}
use Rattle.brick_store.specs.Holding.{brick_at}
use Rattle.brick_store.specs.Copies.{AreCopies, copy_at, samples_of}
use Rattle.brick_store.specs.Rows.{AreOffsets, InZone, Zone, brick_zone}
use Rattle.brick_store.specs.Boxes.{AreBoxWritten, ArePartWritten, AreWrittenAt, IsBox, IsOfBox, IsOfPart, IsOfZone, IsPartOf, IsWithin, area_place, box_zone, boxed, value_in}
use Rattle.brick_store.proofs.BoxPoints.{area_place_in, x_side, y_side, z_side}
use Rattle.brick_store.proofs.BrickNumbers.{IsIn, IsPlaced, is_in, brick_places, places}
use Rattle.brick_store.proofs.Replacing.{length-replaced, sample-replaced}
use Rattle.brick_store.proofs.RowWriting.{IsJoined, one_brick}
use Rattle.brick_store.proofs.Standing.{brick_point_in, length-samples_of, stands_for_one}

-- ---- sets of copies

-- nothing is meant
pub none_at : (g : Grid) (Of : ℕ → ℕ → ℕ → ℕ → Type 0) (value : ℕ → ℤ) (old : List ℤ) → ((b x y z : ℕ) → Of b x y z → ⊥) → AreWrittenAt g Of value old old
none_at g Of value old none = record { count = refl; written = λ b x y z at of. absurd (none b x y z of); others = λ b x y z at not. refl }

-- the copies of one lot and then those of another
pub both_at : (g : Grid) (First Second Whole : ℕ → ℕ → ℕ → ℕ → Type 0) (value : ℕ → ℤ) (old mid new : List ℤ)
    → ((b x y z : ℕ) → Whole b x y z → Second b x y z ⊎ (First b x y z × (Second b x y z → ⊥)))
    → ((b x y z : ℕ) → First b x y z → Whole b x y z) → ((b x y z : ℕ) → Second b x y z → Whole b x y z)
    → AreWrittenAt g First value old mid → AreWrittenAt g Second value mid new → AreWrittenAt g Whole value old new
both_at g First Second Whole value old mid new split left right one two = record {
  count = two.count ∙ one.count;
  written = λ b x y z at of. elim (split b x y z of) [
    | inl s ↦ two.written b x y z at s
    | inr f ↦ two.others b x y z at f.1 ∙ one.written b x y z at f.0
  ];
  others = λ b x y z at not. two.others b x y z at (λ s. not (right b x y z s)) ∙ one.others b x y z at (λ f. not (left b x y z f));
}

-- the same copies, said in another way
pub same_at : (g : Grid) (First Second : ℕ → ℕ → ℕ → ℕ → Type 0) (value : ℕ → ℤ) (old new : List ℤ)
    → ((b x y z : ℕ) → AreOffsets g b x y z → First b x y z → Second b x y z)
    → ((b x y z : ℕ) → AreOffsets g b x y z → Second b x y z → First b x y z)
    → AreWrittenAt g First value old new → AreWrittenAt g Second value old new
same_at g First Second value old new there back is = record {
  count = is.count;
  written = λ b x y z at of. is.written b x y z at (back b x y z at of);
  others = λ b x y z at not. is.others b x y z at (λ f. not (there b x y z at f));
}

-- no brick is in the zone
pub no_zone : (g : Grid) (a : Area) (values : Values) (zone : Zone) (old : List ℤ) → ((b : ℕ) → InZone g zone b → ⊥) → AreBoxWritten g a values zone old old
no_zone g a values zone old none = none_at g (IsOfZone g a zone) (value_in g a values) old (λ b x y z o. none b o.0)

-- the bricks of two zones
pub zones_at : (g : Grid) (a : Area) (values : Values) (first second whole : Zone) (old mid new : List ℤ) → IsJoined g first second whole
    → AreBoxWritten g a values first old mid → AreBoxWritten g a values second mid new → AreBoxWritten g a values whole old new
zones_at g a values first second whole old mid new joined one two =
    both_at g (IsOfZone g a first) (IsOfZone g a second) (IsOfZone g a whole) (value_in g a values) old mid new
    (λ b x y z o. elim (joined.split b o.0) [ inl s ↦ inl (s, o.1) | inr f ↦ inr ((f.0, o.1), λ s. f.1 s.0) ])
    (λ b x y z o. (joined.left b o.0, o.1)) (λ b x y z o. (joined.right b o.0, o.1)) one two

-- ---- the part of a box in a brick

along : (s l h f e c : ℕ) → f ≡ l - s → e ≡ min (h + 1 - s) 9 → f ≤ c → c < e → (l ≤ s + c) × (s + c ≤ h)
along s l h f e c ef ee le low = (omega (arith, ef, le), omega (arith, ee, low))

back_along : (s l h f e c : ℕ) → f ≡ l - s → e ≡ min (h + 1 - s) 9 → c < 9 → l ≤ s + c → s + c ≤ h → (f ≤ c) × (c < e)
back_along s l h f e c ef ee low from to = (omega (arith, ef, from), omega (arith, ee, low, to))

some_along : (s l h f e : ℕ) → f ≡ l - s → e ≡ min (h + 1 - s) 9 → l ≤ h → l ≤ s + 8 → s ≤ h → (f < e) × (e ≤ 9)
some_along s l h f e ef ee order from to = (omega (arith, ef, ee, order, from, to), omega (arith, ee))

pub is_part : (g : Grid) (a : Area) (b : ℕ) (p : Part) → IsArea a
    → p.x ≡ a.low.x - brick_start g b 0 → p.x_end ≡ min (a.high.x + 1 - brick_start g b 0) 9
    → p.y ≡ a.low.y - brick_start g b 1 → p.y_end ≡ min (a.high.y + 1 - brick_start g b 1) 9
    → p.z ≡ a.low.z - brick_start g b 2 → p.z_end ≡ min (a.high.z + 1 - brick_start g b 2) 9
    → a.low.x ≤ brick_start g b 0 + 8 → brick_start g b 0 ≤ a.high.x
    → a.low.y ≤ brick_start g b 1 + 8 → brick_start g b 1 ≤ a.high.y
    → a.low.z ≤ brick_start g b 2 + 8 → brick_start g b 2 ≤ a.high.z
    → IsPartOf g a b p
is_part g a b p is ex ex' ey ey' ez ez' x0 x1 y0 y1 z0 z1 =
    let sx = some_along (brick_start g b 0) a.low.x a.high.x p.x p.x_end ex ex' is.x x0 x1 in
    let sy = some_along (brick_start g b 1) a.low.y a.high.y p.y p.y_end ey ey' is.y y0 y1 in
    let sz = some_along (brick_start g b 2) a.low.z a.high.z p.z p.z_end ez ez' is.z z0 z1 in
    record {
      x_order = sx.0;
      y_order = sy.0;
      z_order = sz.0;
      x_most = sx.1;
      y_most = sy.1;
      z_most = sz.1;
      each = λ x y z lx hx ly hy lz hz.
          let u = along (brick_start g b 0) a.low.x a.high.x p.x p.x_end x ex ex' lx hx in
          let v = along (brick_start g b 1) a.low.y a.high.y p.y p.y_end y ey ey' ly hy in
          let w = along (brick_start g b 2) a.low.z a.high.z p.z p.z_end z ez ez' lz hz in
          record { x_from = u.0; x_to = u.1; y_from = v.0; y_to = v.1; z_from = w.0; z_to = w.1 };
      all = λ x y z hx hy hz of.
          let u = back_along (brick_start g b 0) a.low.x a.high.x p.x p.x_end x ex ex' hx of.x_from of.x_to in
          let v = back_along (brick_start g b 1) a.low.y a.high.y p.y p.y_end y ey ey' hy of.y_from of.y_to in
          let w = back_along (brick_start g b 2) a.low.z a.high.z p.z p.z_end z ez ez' hz of.z_from of.z_to in
          record { x_from = u.0; x_end = u.1; y_from = v.0; y_end = v.1; z_from = w.0; z_end = w.1 };
    }

-- where a brick begins that stands so many bricks along x, y and z
pub begins : (g : Grid) (bx by bz brick : ℕ) → bx < bricks_along g 0 → by < bricks_along g 1 → bz < bricks_along g 2 → brick ≡ brick_at g bx by bz
    → (brick_start g brick 0 ≡ 8 * bx) × ((brick_start g brick 1 ≡ 8 * by) × (brick_start g brick 2 ≡ 8 * bz))
begins g bx by bz brick hx hy hz e =
    let placed : IsPlaced g (brick_at g bx by bz) bx by bz = places g bx by bz hx hy hz in (
      ap (λ n. brick_start g n 0) e ∙ placed.x_start,
      (ap (λ n. brick_start g n 1) e ∙ placed.y_start, ap (λ n. brick_start g n 2) e ∙ placed.z_start),
    )

-- what was written of its part was written in the zone of the brick
pub brick_at_zone : (g : Grid) (a : Area) (values : Values) (bx by bz brick : ℕ) (p : Part) (old new : List ℤ) → IsGrid g
    → bx < bricks_along g 0 → by < bricks_along g 1 → bz < bricks_along g 2 → brick ≡ brick_at g bx by bz → IsPartOf g a brick p
    → ArePartWritten g a values brick p old new → AreBoxWritten g a values (brick_zone bx by bz) old new
brick_at_zone g a values bx by bz brick p old new is hx hy hz number part =
    same_at g (IsOfPart brick p) (IsOfZone g a (brick_zone bx by bz)) (value_in g a values) old new
    (λ b x y z o of.
    let s = begins g bx by bz b hx hy hz (of.0 ∙ number) in
    let w : IsWithin p x y z = of.1 in (
      record {
        x_from = omega (arith, s.0);
        x_to = omega (arith, s.0);
        y_from = omega (arith, s.1.0);
        y_to = omega (arith, s.1.0);
        z_from = omega (arith, s.1.1);
        z_to = omega (arith, s.1.1);
      },
      subst (λ n. IsOfBox g a n x y z) (sym of.0) (part.each x y z w.x_from w.x_end w.y_from w.y_end w.z_from w.z_end),
    ))
    (λ b x y z o of.
    let e : b ≡ brick = one_brick g bx by bz b is o.brick of.0 ∙ sym number in
    (e, part.all x y z o.x_low o.y_low o.z_low (subst (λ n. IsOfBox g a n x y z) e of.1)))

-- ---- the whole box

pub in_box : (g : Grid) (a : Area) (b x y z : ℕ) → IsIn g b x y z → IsOfBox g a b x y z → is_in_area g a (brick_point g b x y z) ≡ true
in_box g a b x y z i of =
    rw (
      x_index g (brick_start g b 0 + x) (brick_start g b 1 + y) (brick_start g b 2 + z) i.x_in i.y_in i.z_in,
      y_index g (brick_start g b 0 + x) (brick_start g b 1 + y) (brick_start g b 2 + z) i.x_in i.y_in i.z_in,
      z_index g (brick_start g b 0 + x) (brick_start g b 1 + y) (brick_start g b 2 + z) i.x_in i.y_in i.z_in,
      le-leb _ _ of.x_from,
      le-leb _ _ of.x_to,
      le-leb _ _ of.y_from,
      le-leb _ _ of.y_to,
      le-leb _ _ of.z_from,
      le-leb _ _ of.z_to,
    ) refl

pub of_box : (g : Grid) (a : Area) (b x y z : ℕ) → IsBox g a → IsIn g b x y z → is_in_area g a (brick_point g b x y z) ≡ true → IsOfBox g a b x y z
of_box g a b x y z is i t =
    let p : ℕ = brick_point g b x y z in
    let low : p < point_count g = index_in g (brick_start g b 0 + x) (brick_start g b 1 + y) (brick_start g b 2 + z) i.x_in i.y_in i.z_in in
    let ex = x_index g (brick_start g b 0 + x) (brick_start g b 1 + y) (brick_start g b 2 + z) i.x_in i.y_in i.z_in in
    let ey = y_index g (brick_start g b 0 + x) (brick_start g b 1 + y) (brick_start g b 2 + z) i.x_in i.y_in i.z_in in
    let ez = z_index g (brick_start g b 0 + x) (brick_start g b 1 + y) (brick_start g b 2 + z) i.x_in i.y_in i.z_in in
    let sx = x_side g a is p low t in
    let sy = y_side g a is p low t in
    let sz = z_side g a is p low t in
    record {
      x_from = subst (λ n. a.low.x ≤ n) ex sx.0;
      x_to = subst (λ n. n ≤ a.high.x) ex sx.1;
      y_from = subst (λ n. a.low.y ≤ n) ey sy.0;
      y_to = subst (λ n. n ≤ a.high.y) ey sy.1;
      z_from = subst (λ n. a.low.z ≤ n) ez sz.0;
      z_to = subst (λ n. n ≤ a.high.z) ez sz.1;
    }

-- the bricks that hold a point of the box are in the zone
pub box_reaches : (g : Grid) (a : Area) (b x y z : ℕ) → IsGrid g → IsBox g a → AreOffsets g b x y z → IsOfBox g a b x y z → InZone g (box_zone g a) b
box_reaches g a b x y z is box o of =
    let placed = brick_places g b is o.brick in record {
      x_from = omega (arith, placed.x_start, of.x_from, o.x_low);
      x_to = omega (arith, placed.x_start, of.x_to, placed.x_low);
      y_from = omega (arith, placed.y_start, of.y_from, o.y_low);
      y_to = omega (arith, placed.y_start, of.y_to, placed.y_low);
      z_from = omega (arith, placed.z_start, of.z_from, o.z_low);
      z_to = omega (arith, placed.z_start, of.z_to, placed.z_low);
    }

-- copies that were written in each brick that holds a point of a box stand for the samples with those of the box replaced
pub box_stands : (g : Grid) (a : Area) (values : Values) (old new : List ℤ) → IsGrid g → IsBox g a → AreCopies g old
    → AreBoxWritten g a values (box_zone g a) old new
    → AreCopies g new × (samples_of g new ≡ boxed g a values (samples_of g old))
box_stands g a values old new grid box are is =
    let before : List ℤ = samples_of g old in
    let value : ℕ → ℤ = value_in g a values in
    let after : List ℤ = boxed g a values before in
    let len : length after ≡ point_count g = length-replaced (is_in_area g a) value before ∙ length-samples_of g old in
    let each : StandsFor g (copy_at new) after
    = λ b x y z hb hx hy hz inside.
    let o : AreOffsets g b x y z = record { brick = hb; x_low = hx; y_low = hy; z_low = hz } in
    let i : IsIn g b x y z = is_in g b x y z inside in
    let p : ℕ = brick_point g b x y z in
    let low : p < length before = subst (λ n. p < n) (sym (length-samples_of g old)) (brick_point_in g b x y z inside) in
    let at : sample after p ≡ cond (is_in_area g a p) (value p) (sample before p) = sample-replaced (is_in_area g a) value before p low in
    elim (cases_Bool (is_in_area g a p)) [
      | inl t ↦ (
          let of : IsOfBox g a b x y z = of_box g a b x y z box i t in
          is.written b x y z o (box_reaches g a b x y z grid box o of, of) ∙ sym (at ∙ ap (λ q. cond q (value p) (sample before p)) t))
      | inr f ↦ is.others b x y z o (λ of. wrong (is_in_area g a p) (in_box g a b x y z i of.1) f)
          ∙ (are.each b x y z hb hx hy hz inside ∙ sym (at ∙ ap (λ q. cond q (value p) (sample before p)) f))
    ] in
    let one : samples_of g new ≡ after = stands_for_one g new after grid len each in
    (record { count = is.count ∙ are.count; each = subst (StandsFor g (copy_at new)) (sym one) each }, one)
  where
    wrong : (q : Bool) → q ≡ true → q ≡ false → ⊥
    wrong true e f = let h : true ≡ false = f in cc
    wrong false e f = let h : false ≡ true = e in cc

-- ---- what the code computes

-- the number of a point of the box by its coordinates
pub place_is : (g : Grid) (a : Area) (low high : Point) (x y z : ℕ) → low ≡ a.low → high ≡ a.high → x < g.nx → y < g.ny → z < g.nz
    → area_place g a (index g x y z) ≡ x - low.x + (high.x - low.x + 1) * (y - low.y + (high.y - low.y + 1) * (z - low.z))
place_is g a low high x y z el eh hx hy hz = rw (el, eh, x_index g x y z hx hy hz, y_index g x y z hx hy hz, z_index g x y z hx hy hz) refl

-- a row of the part of a box in a brick
module _ (g : Grid) (a : Area) (b : ℕ) (p : Part) (y z : ℕ) (is : IsBox g a) (part : IsPartOf g a b p)
    (y_from : p.y ≤ y) (y_end : y < p.y_end) (z_from : p.z ≤ z) (z_end : z < p.z_end) where
  pub one_in : (x : ℕ) → p.x ≤ x → x < p.x_end → IsOfBox g a b x y z
  one_in x from end = part.each x y z from end y_from y_end z_from z_end

  pub in_grid : (x : ℕ) → p.x ≤ x → x < p.x_end → IsIn g b x y z
  in_grid x from end =
      let of : IsOfBox g a b x y z = one_in x from end in
      record { x_in = omega (arith, of.x_to, is.high.x); y_in = omega (arith, of.y_to, is.high.y); z_in = omega (arith, of.z_to, is.high.z) }

  -- the number of its first point, as it is computed
  pub first_place : (u v w n : ℕ) → u ≡ brick_start g b 0 → v ≡ brick_start g b 1 → w ≡ brick_start g b 2
      → n ≡ area_place g a (index g (u + p.x) (v + y) (w + z)) → n ≡ area_place g a (brick_point g b p.x y z)
  first_place u v w n eu ev ew e = e ∙ rw (eu, ev, ew) refl

  pub place_low : (x : ℕ) → p.x ≤ x → x < p.x_end → area_place g a (brick_point g b x y z) < area_count a
  place_low x from end =
      let i : IsIn g b x y z = in_grid x from end in
      area_place_in g a is (brick_point g b x y z) (index_in g (brick_start g b 0 + x) (brick_start g b 1 + y) (brick_start g b 2 + z) i.x_in i.y_in i.z_in)
      (in_box g a b x y z i (one_in x from end))
