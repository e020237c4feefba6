-- Samples of a row that are written in each brick that holds them.
use Rattle.std.proofs.Common.{◌≡◌, ℕ, ◌+◌, ◌-◌, ◌*◌, ◌/◌, ◌%◌, ◌<◌, ◌≤◌, ◌⊎◌, List, length, take, drop, ◌++◌, get_or, refl, sym, ◌∙◌, ap, subst, arith, inl, inr, ℤ, pos, length-append, length-drop, min, max}
use Rattle.std.proofs.lemmas.Bool.{cases_lt}
use Rattle.std.proofs.lemmas.List.{get_or-append_right, get_or_append_left, get_or-take, get_or-drop, drop-drop, length-take-le}
use Rattle.iso_defs.specs.Grid.{Grid, coordinate, index, point_count}
use Rattle.iso_defs.specs.Bricks.{bricks_along, brick_count, brick_start, brick_point}
use Rattle.iso_defs.proofs.Points.{x_index, y_index, z_index}
use Rattle.iso_base.specs.Volume.{IsGrid, sample}
use Rattle.iso_base.specs.Points.{IsPoint, index_of}
use Rattle.iso_base.specs.declared.point.Point.{Point}
use Rattle.iso_base.specs.Stored.{StandsFor}
use Rattle.brick_store.specs.Holding.{brick_at}
use Rattle.brick_store.specs.Copies.{AreCopies, copy_at, copy_place, samples_of}
use Rattle.brick_store.specs.Rows.{AreOffsets, AreRowWritten, InZone, IsOfRow, Zone, row_zone}
use Rattle.packed_samples.specs.Runs.{row_set}
use Rattle.samples.proofs.Rows.{row_in}
use Rattle.brick_store.proofs.BrickNumbers.{IsIn, IsPlaced, is_in, brick_grid, brick_places, places}
use Rattle.brick_store.proofs.Standing.{length-samples_of, stands_for_one}
use Rattle.brick_store.proofs.Writing.{place_brick, place_x, place_y, place_z}

-- ---- a list with a part replaced

pub length-row_set : (i : ℕ) (values samples : List ℤ) → i + length values ≤ length samples → length (row_set i values samples) ≡ length samples
length-row_set i values samples fits = omega (
  arith,
  length-append (take i samples) (values ++ drop (i + length values) samples),
  length-append values (drop (i + length values) samples),
  length-take-le i samples (omega arith),
  length-drop (i + length values) samples,
)

module _ (i : ℕ) (values samples : List ℤ) (fits : i + length values ≤ length samples) (n : ℕ) where
  front : length (take i samples) ≡ i
  front = length-take-le i samples (omega arith)

  pub row_set_before : n < i → sample (row_set i values samples) n ≡ sample samples n
  row_set_before low =
      get_or_append_left (take i samples) (values ++ drop (i + length values) samples) (pos 0) n (omega (arith, front))
      ∙ get_or-take i samples n (pos 0) low

  after_front : i ≤ n → sample (row_set i values samples) n ≡ get_or (values ++ drop (i + length values) samples) (n - i) (pos 0)
  after_front le = get_or-append_right (take i samples) (values ++ drop (i + length values) samples) i n (pos 0) front le

  pub row_set_within : i ≤ n → n < i + length values → sample (row_set i values samples) n ≡ sample values (n - i)
  row_set_within le low = after_front le ∙ get_or_append_left values (drop (i + length values) samples) (pos 0) (n - i) (omega arith)

  pub row_set_behind : i + length values ≤ n → sample (row_set i values samples) n ≡ sample samples n
  row_set_behind le =
      after_front (omega arith)
      ∙ (get_or-append_right values (drop (i + length values) samples) (length values) (n - i) (pos 0) refl (omega arith)
      ∙ (get_or-drop (i + length values) samples (n - i - length values) (pos 0)
      ∙ ap (sample samples) (omega arith)))

-- ---- zones

-- no brick is in a zone that ends where it begins
pub none_written : (g : Grid) (p : Point) (values : List ℤ) (a : Zone) (old : List ℤ) → ((b : ℕ) → InZone g a b → ⊥) → AreRowWritten g p values a old old
none_written g p values a old none = record {
  count = refl;
  written = λ b x y z at zone row. absurd (none b zone);
  others = λ b x y z at not. refl;
}

-- a zone that is two others
pub record IsJoined (g : Grid) (first second whole : Zone) : Type 0 where
  pub split : (b : ℕ) → InZone g whole b → InZone g second b ⊎ (InZone g first b × (InZone g second b → ⊥))
  pub left : (b : ℕ) → InZone g first b → InZone g whole b
  pub right : (b : ℕ) → InZone g second b → InZone g whole b

pub both_written : (g : Grid) (p : Point) (values : List ℤ) (first second whole : Zone) (old mid new : List ℤ) → IsJoined g first second whole
    → AreRowWritten g p values first old mid → AreRowWritten g p values second mid new → AreRowWritten g p values whole old new
both_written g p values first second whole old mid new joined one two = record {
  count = two.count ∙ one.count;
  written = λ b x y z at zone row. elim (joined.split b zone) [
    | inl s ↦ two.written b x y z at s row
    | inr f ↦ two.others b x y z at (λ s r. f.1 s) ∙ one.written b x y z at f.0 row
  ];
  others = λ b x y z at not.
      two.others b x y z at (λ s r. not (joined.right b s) r) ∙ one.others b x y z at (λ f r. not (joined.left b f) r);
}

module _ (g : Grid) (x x_end y y_end z z_end : ℕ) where
  pub joined_x : (k : ℕ) → x ≤ k
      → IsJoined g (record { x = x; x_end = k; y = y; y_end = y_end; z = z; z_end = z_end })
      (record { x = k; x_end = k + 1; y = y; y_end = y_end; z = z; z_end = z_end })
      (record { x = x; x_end = k + 1; y = y; y_end = y_end; z = z; z_end = z_end })
  joined_x k le = record {
    split = λ b s. elim (cases_lt (brick_start g b 0) (8 * k)) [
      | inl l ↦ inr (record { x_from = s.x_from; x_to = l; y_from = s.y_from; y_to = s.y_to; z_from = s.z_from; z_to = s.z_to }, λ t. absurd (omega (arith, t.x_from, l)))
      | inr m ↦ inl (record { x_from = m; x_to = s.x_to; y_from = s.y_from; y_to = s.y_to; z_from = s.z_from; z_to = s.z_to })
    ];
    left = λ b s. record { x_from = s.x_from; x_to = omega (arith, s.x_to); y_from = s.y_from; y_to = s.y_to; z_from = s.z_from; z_to = s.z_to };
    right = λ b s. record { x_from = omega (arith, s.x_from); x_to = s.x_to; y_from = s.y_from; y_to = s.y_to; z_from = s.z_from; z_to = s.z_to };
  }

  pub joined_y : (k : ℕ) → y ≤ k
      → IsJoined g (record { x = x; x_end = x_end; y = y; y_end = k; z = z; z_end = z_end })
      (record { x = x; x_end = x_end; y = k; y_end = k + 1; z = z; z_end = z_end })
      (record { x = x; x_end = x_end; y = y; y_end = k + 1; z = z; z_end = z_end })
  joined_y k le = record {
    split = λ b s. elim (cases_lt (brick_start g b 1) (8 * k)) [
      | inl l ↦ inr (record { x_from = s.x_from; x_to = s.x_to; y_from = s.y_from; y_to = l; z_from = s.z_from; z_to = s.z_to }, λ t. absurd (omega (arith, t.y_from, l)))
      | inr m ↦ inl (record { x_from = s.x_from; x_to = s.x_to; y_from = m; y_to = s.y_to; z_from = s.z_from; z_to = s.z_to })
    ];
    left = λ b s. record { x_from = s.x_from; x_to = s.x_to; y_from = s.y_from; y_to = omega (arith, s.y_to); z_from = s.z_from; z_to = s.z_to };
    right = λ b s. record { x_from = s.x_from; x_to = s.x_to; y_from = omega (arith, s.y_from); y_to = s.y_to; z_from = s.z_from; z_to = s.z_to };
  }

  pub joined_z : (k : ℕ) → z ≤ k
      → IsJoined g (record { x = x; x_end = x_end; y = y; y_end = y_end; z = z; z_end = k })
      (record { x = x; x_end = x_end; y = y; y_end = y_end; z = k; z_end = k + 1 })
      (record { x = x; x_end = x_end; y = y; y_end = y_end; z = z; z_end = k + 1 })
  joined_z k le = record {
    split = λ b s. elim (cases_lt (brick_start g b 2) (8 * k)) [
      | inl l ↦ inr (record { x_from = s.x_from; x_to = s.x_to; y_from = s.y_from; y_to = s.y_to; z_from = s.z_from; z_to = l }, λ t. absurd (omega (arith, t.z_from, l)))
      | inr m ↦ inl (record { x_from = s.x_from; x_to = s.x_to; y_from = s.y_from; y_to = s.y_to; z_from = m; z_to = s.z_to })
    ];
    left = λ b s. record { x_from = s.x_from; x_to = s.x_to; y_from = s.y_from; y_to = s.y_to; z_from = s.z_from; z_to = omega (arith, s.z_to) };
    right = λ b s. record { x_from = s.x_from; x_to = s.x_to; y_from = s.y_from; y_to = s.y_to; z_from = omega (arith, s.z_from); z_to = s.z_to };
  }

-- ---- one brick

-- the brick that begins here
pub one_brick : (g : Grid) (x y z b : ℕ) → IsGrid g → b < brick_count g
    → InZone g (record { x = x; x_end = x + 1; y = y; y_end = y + 1; z = z; z_end = z + 1 }) b → b ≡ brick_at g x y z
one_brick g x y z b is low zone =
    let at = brick_places g b is low in
    at.number ∙ moved (coordinate (brick_grid g) 0 b) (coordinate (brick_grid g) 1 b) (coordinate (brick_grid g) 2 b)
    (omega (arith, at.x_start, zone.x_from, zone.x_to)) (omega (arith, at.y_start, zone.y_from, zone.y_to)) (omega (arith, at.z_start, zone.z_from, zone.z_to))
  where
    moved : (u v w : ℕ) → u ≡ x → v ≡ y → w ≡ z → brick_at g u v w ≡ brick_at g x y z
    moved u v w e f h = rw (e, f, h) refl

-- the copies of a part of a row in one brick were replaced
pub one_written : (g : Grid) (p : Point) (values : List ℤ) (bx by bz from end : ℕ) (old new : List ℤ) → IsGrid g
    → bx < bricks_along g 0 → by < bricks_along g 1 → bz < bricks_along g 2
    → p.x ≤ from → 8 * bx ≤ from → (p.x ≡ from) ⊎ (8 * bx ≡ from) → from ≤ end → end ≤ p.x + length values → end ≤ 8 * bx + 9
    → (end ≡ p.x + length values) ⊎ (end ≡ 8 * bx + 9)
    → 8 * by ≤ p.y → p.y ≤ 8 * by + 8 → 8 * bz ≤ p.z → p.z ≤ 8 * bz + 8 → from < 8 * bx + 9
    → copy_place (brick_at g bx by bz) (from - 8 * bx) (p.y - 8 * by) (p.z - 8 * bz) + (end - from) ≤ length old
    → new ≡ row_set (copy_place (brick_at g bx by bz) (from - 8 * bx) (p.y - 8 * by) (p.z - 8 * bz)) (take (end - from) (drop (from - p.x) values)) old
    → AreRowWritten g p values (record { x = bx; x_end = bx + 1; y = by; y_end = by + 1; z = bz; z_end = bz + 1 }) old new
one_written g p values bx by bz from end old new is hx hy hz f0 f1 f2 fe e0 e1 e2 y0 y1 z0 z1 near room put = record {
  count = ap length put ∙ length-row_set start part old fits;
  written = λ b x y z at zone row.
      let e : b ≡ b0 = one_brick g bx by bz b is at.brick zone in
      let placed : IsPlaced g b0 bx by bz = places g bx by bz hx hy hz in
      let s0 : brick_start g b 0 ≡ 8 * bx = ap (λ n. brick_start g n 0) e ∙ placed.x_start in
      let s1 : brick_start g b 1 ≡ 8 * by = ap (λ n. brick_start g n 1) e ∙ placed.y_start in
      let s2 : brick_start g b 2 ≡ 8 * bz = ap (λ n. brick_start g n 2) e ∙ placed.z_start in
      let xr : (from - 8 * bx ≤ x) × (x < end - 8 * bx) = (low_x b x s0 row.x_from, high_x b x s0 row.x_end at.x_low) in
      let ey : y ≡ p.y - 8 * by = omega (arith, s1, row.y_is) in
      let ez : z ≡ p.z - 8 * bz = omega (arith, s2, row.z_is) in
      let place : copy_place b x y z ≡ start + (x - (from - 8 * bx)) = same_place b x y z e ey ez xr.0 in
      ap (λ l. copy_at l b x y z) put
      ∙ (ap (sample (row_set start part old)) place
      ∙ (row_set_within start part old fits (start + (x - (from - 8 * bx))) (omega arith) (omega (arith, count, xr.1, xr.0))
      ∙ (ap (sample part) (omega arith)
      ∙ (part_at (x - (from - 8 * bx)) (omega (arith, xr.1, xr.0))
      ∙ ap (sample values) (omega (arith, s0, xr.0))))));
  others = λ b x y z at not.
      ap (λ l. copy_at l b x y z) put
      ∙ elim (cases_lt (copy_place b x y z) start) [
        | inl l ↦ row_set_before start part old fits (copy_place b x y z) l
        | inr m ↦ elim (cases_lt (copy_place b x y z) (start + (end - from))) [
          | inl l ↦ absurd (inside b x y z at m l not)
          | inr h ↦ row_set_behind start part old fits (copy_place b x y z) (omega (arith, count, h))
        ]
      ];
}
  where
    b0 : ℕ
    b0 = brick_at g bx by bz

    start : ℕ
    start = copy_place (brick_at g bx by bz) (from - 8 * bx) (p.y - 8 * by) (p.z - 8 * bz)

    part : List ℤ
    part = take (end - from) (drop (from - p.x) values)

    count : length (take (end - from) (drop (from - p.x) values)) ≡ end - from
    count = length-take-le (end - from) (drop (from - p.x) values) (omega (arith, length-drop (from - p.x) values))

    fits : copy_place (brick_at g bx by bz) (from - 8 * bx) (p.y - 8 * by) (p.z - 8 * bz) + length (take (end - from) (drop (from - p.x) values)) ≤ length old
    fits = omega (arith, count, room)

    part_at : (k : ℕ) → k < end - from → sample (take (end - from) (drop (from - p.x) values)) k ≡ sample values (from - p.x + k)
    part_at k low = get_or-take (end - from) (drop (from - p.x) values) k (pos 0) low ∙ get_or-drop (from - p.x) values k (pos 0)

    low_x : (b x : ℕ) → brick_start g b 0 ≡ 8 * bx → p.x ≤ brick_start g b 0 + x → from - 8 * bx ≤ x
    low_x b x s h = elim f2 [ inl e ↦ omega arith | inr e ↦ omega arith ]

    high_x : (b x : ℕ) → brick_start g b 0 ≡ 8 * bx → brick_start g b 0 + x < p.x + length values → x < 9 → x < end - 8 * bx
    high_x b x s h k = elim e2 [ inl e ↦ omega arith | inr e ↦ omega arith ]

    same_place : (b x y z : ℕ) → b ≡ brick_at g bx by bz → y ≡ p.y - 8 * by → z ≡ p.z - 8 * bz → from - 8 * bx ≤ x
        → copy_place b x y z ≡ copy_place (brick_at g bx by bz) (from - 8 * bx) (p.y - 8 * by) (p.z - 8 * bz) + (x - (from - 8 * bx))
    same_place b x y z e ey ez le = rw (e, ey, ez) (spread (brick_at g bx by bz) (from - 8 * bx) x (p.y - 8 * by) (p.z - 8 * bz) le)
      where
        spread : (b d x y z : ℕ) → d ≤ x → copy_place b x y z ≡ copy_place b d y z + (x - d)
        spread b d x y z le = omega arith

    -- a copy at one of these places is one of the brick's
    inside : (b x y z : ℕ) → AreOffsets g b x y z → copy_place (brick_at g bx by bz) (from - 8 * bx) (p.y - 8 * by) (p.z - 8 * bz) ≤ copy_place b x y z
        → copy_place b x y z < copy_place (brick_at g bx by bz) (from - 8 * bx) (p.y - 8 * by) (p.z - 8 * bz) + (end - from)
        → (InZone g (record { x = bx; x_end = bx + 1; y = by; y_end = by + 1; z = bz; z_end = bz + 1 }) b → IsOfRow g p (length values) b x y z → ⊥) → ⊥
    inside b x y z at m l not =
        let dx : ℕ = copy_place b x y z - start + (from - 8 * bx) in
        let u : dx < 9 = omega (arith, e1, l, m) in
        let v : p.y - 8 * by < 9 = omega (arith, y1) in
        let w : p.z - 8 * bz < 9 = omega (arith, z1) in
        let same : copy_place b x y z ≡ copy_place b0 dx (p.y - 8 * by) (p.z - 8 * bz) = shifted b0 (from - 8 * bx) (p.y - 8 * by) (p.z - 8 * bz) (copy_place b x y z) m in
        let eb : b ≡ b0 = sym (place_brick b x y z at.x_low at.y_low at.z_low) ∙ (ap (λ n. n / 729) same ∙ place_brick b0 dx _ _ u v w) in
        let ex : x ≡ dx = sym (place_x b x y z at.x_low at.y_low at.z_low) ∙ (ap (λ n. n % 9) same ∙ place_x b0 dx _ _ u v w) in
        let ey : y ≡ p.y - 8 * by = sym (place_y b x y z at.x_low at.y_low at.z_low) ∙ (ap (λ n. n / 9 % 9) same ∙ place_y b0 dx _ _ u v w) in
        let ez : z ≡ p.z - 8 * bz = sym (place_z b x y z at.x_low at.y_low at.z_low) ∙ (ap (λ n. n / 81 % 9) same ∙ place_z b0 dx _ _ u v w) in
        let placed : IsPlaced g b0 bx by bz = places g bx by bz hx hy hz in
        let s0 : brick_start g b 0 ≡ 8 * bx = ap (λ n. brick_start g n 0) eb ∙ placed.x_start in
        let s1 : brick_start g b 1 ≡ 8 * by = ap (λ n. brick_start g n 1) eb ∙ placed.y_start in
        let s2 : brick_start g b 2 ≡ 8 * bz = ap (λ n. brick_start g n 2) eb ∙ placed.z_start in
        let near_end : dx + 8 * bx < end = omega (arith, l, m, f1) in
        not (record {
          x_from = omega (arith, s0);
          x_to = omega (arith, s0);
          y_from = omega (arith, s1);
          y_to = omega (arith, s1);
          z_from = omega (arith, s2);
          z_to = omega (arith, s2);
        }) (record {
          x_from = omega (arith, s0, ex, f0, f1);
          x_end = omega (arith, s0, ex, near_end, e0);
          y_is = omega (arith, s1, ey, y0);
          z_is = omega (arith, s2, ez, z0);
        })
      where
        shifted : (b d y z n : ℕ) → copy_place b d y z ≤ n → n ≡ copy_place b (n - copy_place b d y z + d) y z
        shifted b d y z n le = omega arith

-- ---- the whole row

-- copies that were written in each brick that holds a point of a row stand for the samples with those of the row replaced
pub row_stands : (g : Grid) (p : Point) (values : List ℤ) (a : Zone) (old new : List ℤ) → IsGrid g → IsPoint g p → p.x + length values ≤ g.nx → AreCopies g old
    → ((b x y z : ℕ) → AreOffsets g b x y z → IsOfRow g p (length values) b x y z → InZone g a b)
    → AreRowWritten g p values a old new
    → AreCopies g new × (samples_of g new ≡ row_set (index_of g p) values (samples_of g old))
row_stands g p values a old new grid at fits are reach is =
    let before : List ℤ = samples_of g old in
    let i : ℕ = index_of g p in
    let low : i + length values ≤ length before = omega (arith, row_in g p at (length values) fits, length-samples_of g old) in
    let after : List ℤ = row_set i values before in
    let len : length after ≡ point_count g = length-row_set i values before low ∙ length-samples_of g old in
    let each : StandsFor g (copy_at new) after
    = λ b x y z hb hx hy hz inside.
    let o : AreOffsets g b x y z = record { brick = hb; x_low = hx; y_low = hy; z_low = hz } in
    let in_grid : IsIn g b x y z = is_in g b x y z inside in
    let stays : (IsOfRow g p (length values) b x y z → ⊥) → copy_at new b x y z ≡ sample before (brick_point g b x y z)
    = λ not. is.others b x y z o (λ zone row. not row) ∙ are.each b x y z hb hx hy hz inside in
    elim (cases_lt (brick_point g b x y z) i) [
      | inl l ↦ stays (λ row. absurd (omega (arith, l, in_row b x y z row))) ∙ sym (row_set_before i values before low (brick_point g b x y z) l)
      | inr m ↦ elim (cases_lt (brick_point g b x y z) (i + length values)) [
        | inl l ↦ (
            let row : IsOfRow g p (length values) b x y z = of_row b x y z in_grid m l in
            is.written b x y z o (reach b x y z o row) row
            ∙ (ap (sample values) (omega (arith, in_row b x y z row, row.x_from))
            ∙ sym (row_set_within i values before low (brick_point g b x y z) m l)))
        | inr h ↦ stays (λ row. absurd (omega (arith, h, in_row b x y z row, row.x_from, row.x_end))) ∙ sym (row_set_behind i values before low (brick_point g b x y z) h)
      ]
    ] in
    let one : samples_of g new ≡ after = stands_for_one g new after grid len each in
    (record { count = is.count ∙ are.count; each = subst (StandsFor g (copy_at new)) (sym one) each }, one)
  where
    -- where in the list a point of the row stands
    in_row : (b x y z : ℕ) → IsOfRow g p (length values) b x y z → brick_point g b x y z ≡ index_of g p + (brick_start g b 0 + x - p.x)
    in_row b x y z row = rw (row.y_is, row.z_is) (apart (brick_start g b 0 + x) p.x (g.nx * (p.y + g.ny * p.z)) row.x_from)
      where
        apart : (u v r : ℕ) → v ≤ u → u + r ≡ v + r + (u - v)
        apart u v r le = omega arith

    of_row : (b x y z : ℕ) → IsIn g b x y z → index_of g p ≤ brick_point g b x y z → brick_point g b x y z < index_of g p + length values
        → IsOfRow g p (length values) b x y z
    of_row b x y z i m l =
        let d : ℕ = brick_point g b x y z - index_of g p in
        let e : brick_point g b x y z ≡ index g (p.x + d) p.y p.z = omega arith in
        let lx : p.x + d < g.nx = omega arith in
        let u : ℕ = brick_start g b 0 + x in
        let v : ℕ = brick_start g b 1 + y in
        let w : ℕ = brick_start g b 2 + z in
        let ex : u ≡ p.x + d = sym (x_index g u v w i.x_in i.y_in i.z_in) ∙ (ap (coordinate g 0) e ∙ x_index g (p.x + d) p.y p.z lx at.y at.z) in
        let ey : v ≡ p.y = sym (y_index g u v w i.x_in i.y_in i.z_in) ∙ (ap (coordinate g 1) e ∙ y_index g (p.x + d) p.y p.z lx at.y at.z) in
        let ez : w ≡ p.z = sym (z_index g u v w i.x_in i.y_in i.z_in) ∙ (ap (coordinate g 2) e ∙ z_index g (p.x + d) p.y p.z lx at.y at.z) in
        record { x_from = omega (arith, ex); x_end = omega (arith, ex); y_is = ey; z_is = ez }

-- ---- what the code computes

pub max_is : (a b m : ℕ) → m ≡ max a b → (a ≡ m) ⊎ (b ≡ m)
max_is a b m e = elim (cases_lt a b) [ inl l ↦ inr (omega (arith, e, l)) | inr h ↦ inl (omega (arith, e, h)) ]

pub min_is : (a b m : ℕ) → m ≡ min a b → (m ≡ a) ⊎ (m ≡ b)
min_is a b m e = elim (cases_lt a b) [ inl l ↦ inl (omega (arith, e, l)) | inr h ↦ inr (omega (arith, e, h)) ]

pub room_of : (b n dx dy dz k len : ℕ) → b < n → dx + k ≤ 9 → dy < 9 → dz < 9 → len ≡ 729 * n → copy_place b dx dy dz + k ≤ len
room_of b n dx dy dz k len low x y z e = omega arith

-- a part that was copied over
pub put_is : (start k : ℕ) (part copied old : List ℤ) → copied ≡ part → k ≡ length part → take start old ++ (copied ++ drop k (drop start old)) ≡ row_set start part old
put_is start k part copied old same count =
    rw (same, count) (ap (λ l. take start old ++ (part ++ l)) (drop-drop (length part) start old))

-- the bricks that hold a point of the row are in the zone
pub row_reaches : (g : Grid) (p : Point) (n b x y z : ℕ) → IsGrid g → IsPoint g p → p.x + n ≤ g.nx → AreOffsets g b x y z → IsOfRow g p n b x y z → InZone g (row_zone g p n) b
row_reaches g p n b x y z is at fits o row =
    let placed = brick_places g b is o.brick in record {
      x_from = omega (arith, placed.x_start, row.x_from, o.x_low);
      x_to = omega (arith, placed.x_start, row.x_end, placed.x_low);
      y_from = omega (arith, placed.y_start, row.y_is, o.y_low);
      y_to = omega (arith, placed.y_start, row.y_is, placed.y_low);
      z_from = omega (arith, placed.z_start, row.z_is, o.z_low);
      z_to = omega (arith, placed.z_start, row.z_is, placed.z_low);
    }
