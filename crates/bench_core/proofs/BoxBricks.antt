-- The bricks that hold a point of a box, row by row of bricks.
use Rattle.std.proofs.Common.{◌≡◌, ℕ, zero, suc, ◌+◌, ◌-◌, ◌*◌, ◌/◌, ◌<◌, ◌≤◌, Bool, true, false, ◌&&◌, List, [], ◌++◌, min, refl, sym, ◌∙◌, ap, ap₂, arith, add-zero, zero-add}
use Rattle.std.specs.List.{filter, range_with_len}
use Rattle.std.proofs.Math.Nat.{mul-le-mul_left}
use Rattle.std.proofs.lemmas.Bool.{le-leb, lt-leb}
use Rattle.std.proofs.lemmas.List.{append-nil}
use Rattle.std.proofs.lemmas.List.Elements.{filter-append}
use Rattle.iso_defs.specs.Grid.{Grid}
use Rattle.iso_defs.specs.Bricks.{bricks_along, brick_count}
use Rattle.iso_defs.proofs.Ranges.{range_append}
use Rattle.voxel_list.specs.Areas.{Area}
use Rattle.brick_store.specs.Holding.{brick_at}
use Rattle.brick_store.proofs.BrickNumbers.{IsPlaced, places}
use Rattle.brick_store.proofs.Reaching.{filter_middle, filter_none}
use Rattle.bench_core.specs.Keeping.{bricks_of, holds_some, layer_held, reaches_into}

-- the bricks along an axis of so many points that hold one of these coordinates
pub record IsReach (n low high first end : ℕ) : Type 0 where
  pub first_is : first ≡ min ((low - 1) / 8) end
  pub end_is : end ≡ min (high / 8 + 1) ((n + 6) / 8)

never : (b : Bool) → (b && false) ≡ false
never true = refl
never false = refl

module _ (n low high first end : ℕ) (is : IsReach n low high first end) where
  pub reached : (i : ℕ) → first ≤ i → i < end → reaches_into (8 * i) low high ≡ true
  reached i h k = rw (le-leb (8 * i) high (omega (arith, is.end_is)), le-leb low (8 * i + 8) (omega (arith, is.first_is))) refl

  not_before : (i : ℕ) → i < first → reaches_into (8 * i) low high ≡ false
  not_before i h = rw (lt-leb low (8 * i + 8) (omega (arith, is.first_is))) (never _)

  not_after : (i : ℕ) → end ≤ i → i < (n + 6) / 8 → reaches_into (8 * i) low high ≡ false
  not_after i h k = rw (lt-leb (8 * i) high (omega (arith, is.end_is))) refl

  pub first_end : first ≤ end
  first_end = omega (arith, is.first_is)

  pub end_low : end ≤ (n + 6) / 8
  end_low = omega (arith, is.end_is)

-- a row of bricks ends before they all do
pub row_inside : (g : Grid) (y z e : ℕ) → y < bricks_along g 1 → z < bricks_along g 2 → e ≤ bricks_along g 0 → brick_at g 0 y z + e ≤ brick_count g
row_inside g y z e hy hz he = inside (bricks_along g 0) (bricks_along g 1) (bricks_along g 2) y z e hy hz he
  where
    inside : (m n o y z e : ℕ) → y < n → z < o → e ≤ m → 0 + m * (y + n * z) + e ≤ m * n * o
    inside m n o y z e hy hz he =
        let layers : n * (z + 1) ≤ n * o = mul-le-mul_left n (omega arith) in
        let rows : m * (y + n * z + 1) ≤ m * (n * o) = mul-le-mul_left m (omega arith) in
        omega (arith, rows)

module _ (g : Grid) (a : Area) where
  -- those of so many bricks from one on
  abbrev held : ℕ → ℕ → List ℕ
  held from n = filter (holds_some g a) (range_with_len from n)

  held_both : (from m n : ℕ) → held from (m + n) ≡ held from m ++ held (from + m) n
  held_both from m n = ap (filter (holds_some g a)) (range_append from m n) ∙ filter-append (holds_some g a) (range_with_len from m) (range_with_len (from + m) n)

  -- a row of bricks along x
  module _ (y z : ℕ) (y_low : y < bricks_along g 1) (z_low : z < bricks_along g 2) where
    holds_at : (x : ℕ) → x < bricks_along g 0
        → holds_some g a (brick_at g 0 y z + x)
        ≡ (reaches_into (8 * x) a.low.x a.high.x && (reaches_into (8 * y) a.low.y a.high.y && reaches_into (8 * z) a.low.z a.high.z))
    holds_at x low =
        let at : IsPlaced g (brick_at g x y z) x y z = places g x y z low y_low z_low in
        ap (holds_some g a) (along x (bricks_along g 0 * (y + bricks_along g 1 * z))) ∙ by_starts _ _ _ at.x_start at.y_start at.z_start
      where
        along : (x a : ℕ) → 0 + a + x ≡ x + a
        along x a = omega arith

        by_starts : (p q r : ℕ) → p ≡ 8 * x → q ≡ 8 * y → r ≡ 8 * z
            → (reaches_into p a.low.x a.high.x && (reaches_into q a.low.y a.high.y && reaches_into r a.low.z a.high.z))
            ≡ (reaches_into (8 * x) a.low.x a.high.x && (reaches_into (8 * y) a.low.y a.high.y && reaches_into (8 * z) a.low.z a.high.z))
        by_starts p q r e f h = rw (e, f, h) refl

    -- where the row is reached, those from the first to before the last
    row_held : (first end : ℕ) → IsReach g.nx a.low.x a.high.x first end → reaches_into (8 * y) a.low.y a.high.y ≡ true → reaches_into (8 * z) a.low.z a.high.z ≡ true
        → held (brick_at g 0 y z) (bricks_along g 0) ≡ range_with_len (brick_at g 0 y z + first) (end - first)
    row_held first end is ry rz =
        filter_middle (holds_some g a) (brick_at g 0 y z) first end (bricks_along g 0)
        (first_end g.nx a.low.x a.high.x first end is) (end_low g.nx a.low.x a.high.x first end is)
        (λ k h. holds_at k (let l = first_end g.nx a.low.x a.high.x first end is in let m = end_low g.nx a.low.x a.high.x first end is in omega arith)
        ∙ rw (not_before g.nx a.low.x a.high.x first end is k h) refl)
        (λ k h l. holds_at k (let m = end_low g.nx a.low.x a.high.x first end is in omega arith) ∙ rw (reached g.nx a.low.x a.high.x first end is k h l, ry, rz) refl)
        (λ k h l. holds_at k l ∙ rw (not_after g.nx a.low.x a.high.x first end is k h l) refl)

    -- where it is not, none
    row_without : (reaches_into (8 * y) a.low.y a.high.y && reaches_into (8 * z) a.low.z a.high.z) ≡ false → held (brick_at g 0 y z) (bricks_along g 0) ≡ []
    row_without none = filter_none (holds_some g a) (brick_at g 0 y z) (bricks_along g 0) (λ k h. holds_at k h ∙ rw none (never (reaches_into (8 * k) a.low.x a.high.x)))

  -- the first rows of a slice, so many
  abbrev pub rows_held : ℕ → ℕ → List ℕ
  rows_held z n = held (brick_at g 0 0 z) (bricks_along g 0 * n)

  one_more_row : (y z : ℕ) → rows_held z (y + 1) ≡ rows_held z y ++ held (brick_at g 0 y z) (bricks_along g 0)
  one_more_row y z =
      ap (held (brick_at g 0 0 z)) (more (bricks_along g 0) y)
      ∙ (held_both (brick_at g 0 0 z) (bricks_along g 0 * y) (bricks_along g 0)
      ∙ ap (λ s. rows_held z y ++ held s (bricks_along g 0)) (there (bricks_along g 0) y (bricks_along g 1 * z)))
    where
      more : (m y : ℕ) → m * (y + 1) ≡ m * y + m
      more m y = omega arith

      there : (m y b : ℕ) → 0 + m * (0 + b) + m * y ≡ 0 + m * (y + b)
      there m y b = omega arith

  -- rows none of which is reached
  rows_still : (z y n : ℕ) → z < bricks_along g 2 → y + n ≤ bricks_along g 1
      → ((i : ℕ) → y ≤ i → i < y + n → (reaches_into (8 * i) a.low.y a.high.y && reaches_into (8 * z) a.low.z a.high.z) ≡ false) → rows_held z (y + n) ≡ rows_held z y
  rows_still z y zero low fits none = ap (rows_held z) (add-zero y)
  rows_still z y (suc n) low fits none =
      ap (rows_held z) (later y n) ∙ (one_more_row (y + n) z
      ∙ (ap (λ l. rows_held z (y + n) ++ l) (row_without (y + n) z (omega arith) low (none (y + n) (omega arith) (omega arith)))
      ∙ (append-nil (rows_held z (y + n)) ∙ rows_still z y n low (omega arith) (λ i h k. none i h (omega arith)))))
    where
      later : (y n : ℕ) → y + suc n ≡ y + n + 1
      later y n = omega arith

  no_rows : (z : ℕ) → rows_held z 0 ≡ []
  no_rows z = ap (held (brick_at g 0 0 z)) (none (bricks_along g 0))
    where
      none : (m : ℕ) → m * 0 ≡ 0
      none m = omega arith

  -- a slice that is reached
  module _ (z : ℕ) (z_low : z < bricks_along g 2) (rz : reaches_into (8 * z) a.low.z a.high.z ≡ true) (first end : ℕ) (is : IsReach g.ny a.low.y a.high.y first end) where
    pub rows_begun : rows_held z first ≡ []
    rows_begun =
        ap (rows_held z) (sym (zero-add first))
        ∙ (rows_still z 0 first z_low (let l = first_end g.ny a.low.y a.high.y first end is in let m = end_low g.ny a.low.y a.high.y first end is in omega arith)
        (λ i h k. rw (not_before g.ny a.low.y a.high.y first end is i (omega arith)) refl)
        ∙ no_rows z)

    pub row_followed : (y start from to : ℕ) (first_x end_x : ℕ) → IsReach g.nx a.low.x a.high.x first_x end_x → first ≤ y → y < end → start ≡ brick_at g 0 y z
        → from ≡ start + first_x → to ≡ start + end_x → rows_held z y ++ range_with_len from (to - from) ≡ rows_held z (y + 1)
    row_followed y start from to first_x end_x reach h k at from_is to_is =
        let low : y < bricks_along g 1 = (let m = end_low g.ny a.low.y a.high.y first end is in omega arith) in
        ap₂ (λ s n. rows_held z y ++ range_with_len s n) (from_is ∙ ap (λ s. s + first_x) at) (omega arith)
        ∙ sym (one_more_row y z ∙ ap (λ l. rows_held z y ++ l)
        (row_held y z low z_low first_x end_x reach (reached g.ny a.low.y a.high.y first end is y h k) rz))

    pub rows_done : rows_held z end ≡ layer_held g a z
    rows_done =
        let low : end ≤ bricks_along g 1 = end_low g.ny a.low.y a.high.y first end is in
        let whole : bricks_along g 1 ≡ end + (bricks_along g 1 - end) = omega arith in
        sym (ap (rows_held z) whole
        ∙ rows_still z end (bricks_along g 1 - end) z_low (omega arith) (λ i h k. rw (not_after g.ny a.low.y a.high.y first end is i h (omega arith)) refl))

  -- the first slices, so many
  abbrev pub layers_held : ℕ → List ℕ
  layers_held n = held 0 (bricks_along g 0 * bricks_along g 1 * n)

  pub one_more_layer : (z : ℕ) → layers_held z ++ layer_held g a z ≡ layers_held (z + 1)
  one_more_layer z =
      sym (ap (held 0) (more (bricks_along g 0) (bricks_along g 1) z)
      ∙ (held_both 0 (bricks_along g 0 * bricks_along g 1 * z) (bricks_along g 0 * bricks_along g 1)
      ∙ ap (λ s. layers_held z ++ held s (bricks_along g 0 * bricks_along g 1)) (there (bricks_along g 0) (bricks_along g 1) z)))
    where
      more : (m n z : ℕ) → m * n * (z + 1) ≡ m * n * z + m * n
      more m n z = omega arith

      there : (m n z : ℕ) → 0 + m * n * z ≡ 0 + m * (0 + n * z)
      there m n z = omega arith

  layer_without : (z : ℕ) → z < bricks_along g 2 → reaches_into (8 * z) a.low.z a.high.z ≡ false → layer_held g a z ≡ []
  layer_without z low none =
      ap (rows_held z) (sym (zero-add (bricks_along g 1)))
      ∙ (rows_still z 0 (bricks_along g 1) low (omega arith) (λ i h k. rw none (never (reaches_into (8 * i) a.low.y a.high.y))) ∙ no_rows z)

  layers_still : (z n : ℕ) → z + n ≤ bricks_along g 2 → ((i : ℕ) → z ≤ i → i < z + n → reaches_into (8 * i) a.low.z a.high.z ≡ false) → layers_held (z + n) ≡ layers_held z
  layers_still z zero fits none = ap layers_held (add-zero z)
  layers_still z (suc n) fits none =
      ap layers_held (later z n) ∙ (sym (one_more_layer (z + n))
      ∙ (ap (λ l. layers_held (z + n) ++ l) (layer_without (z + n) (omega arith) (none (z + n) (omega arith) (omega arith)))
      ∙ (append-nil (layers_held (z + n)) ∙ layers_still z n (omega arith) (λ i h k. none i h (omega arith)))))
    where
      later : (y n : ℕ) → y + suc n ≡ y + n + 1
      later y n = omega arith

  module _ (first end : ℕ) (is : IsReach g.nz a.low.z a.high.z first end) where
    pub layers_begun : layers_held first ≡ []
    layers_begun =
        ap layers_held (sym (zero-add first))
        ∙ (layers_still 0 first (let l = first_end g.nz a.low.z a.high.z first end is in let m = end_low g.nz a.low.z a.high.z first end is in omega arith)
        (λ i h k. not_before g.nz a.low.z a.high.z first end is i (omega arith))
        ∙ ap (held 0) (none (bricks_along g 0 * bricks_along g 1)))
      where
        none : (m : ℕ) → m * 0 ≡ 0
        none m = omega arith

    pub layers_done : layers_held end ≡ bricks_of g a
    unfolding bricks_of
    layers_done =
        let low : end ≤ bricks_along g 2 = end_low g.nz a.low.z a.high.z first end is in
        let whole : bricks_along g 2 ≡ end + (bricks_along g 2 - end) = omega arith in
        sym (ap layers_held whole
        ∙ layers_still end (bricks_along g 2 - end) (omega arith) (λ i h k. not_after g.nz a.low.z a.high.z first end is i h (omega arith)))
