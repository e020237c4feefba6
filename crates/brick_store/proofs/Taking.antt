-- Samples of a row that are taken from the bricks that hold them.
use Rattle.std.proofs.Common.{◌≡◌, ℕ, ◌+◌, ◌-◌, ◌*◌, ◌/◌, ◌%◌, ◌<◌, ◌≤◌, List, ◌++◌, length, map, take, drop, sym, ◌∙◌, ap, refl, subst, arith, inl, inr, ℤ, pos, length-append, length-drop, min}
use Rattle.std.proofs.lemmas.Bool.{cases_lt}
use Rattle.std.proofs.lemmas.List.{append-nil, drop_all, ext_get_or, get_or-take, get_or-drop, get_or_append_left, length-take-le}
use Rattle.std.proofs.lemmas.List.FromFn.{get_or-map-range_with_len, length-map-range_with_len}
use Rattle.iso_defs.specs.Lists.{below}
use Rattle.iso_defs.specs.Grid.{Grid}
use Rattle.iso_defs.specs.Bricks.{bricks_along, brick_count, brick_start}
use Rattle.iso_defs.proofs.Points.{index_in}
use Rattle.iso_base.specs.Volume.{IsGrid, sample}
use Rattle.iso_base.specs.Points.{IsPoint, index_of}
use Rattle.iso_base.specs.declared.point.Point.{Point}
use Rattle.brick_store.specs.Holding.{brick_at}
use Rattle.brick_store.specs.Copies.{AreCopies, copy_place, first_brick_along, first_copy_place, row_rest, samples_of}
use Rattle.packed_samples.specs.Runs.{row_set}
use Rattle.brick_store.proofs.BrickNumbers.{IsIn, IsPlaced, in_is, is_in, places}
use Rattle.brick_store.proofs.RowWriting.{length-row_set, put_is, row_set_before, row_set_within}
use Rattle.brick_store.proofs.Standing.{IsHome, home_of, sample_at}

-- so many copies from a place on, copied
pub copied : (copies new : List ℤ) (start k n : ℕ) → n ≡ k → new ≡ take k (drop start copies) → (i : ℕ) → i < n → sample new i ≡ sample copies (start + i)
copied copies new start k n so_many is i low =
    ap (λ l. sample l i) is ∙ (get_or-take k (drop start copies) i (pos 0) (omega (arith, so_many, low)) ∙ get_or-drop start copies i (pos 0))

-- the place of each sample of a row in the eights of the bricks
module _ (copies into mid : List ℤ) (place n : ℕ) (all : n ≡ length into / 8) (count : length mid ≡ length into)
    (taken : (j d : ℕ) → j < n → d < 8 → sample mid (8 * j + d) ≡ sample copies (place + 729 * j + d)) where
  pub by_eights : (p : ℕ) → p < 8 * n → sample mid p ≡ sample copies (place + (729 * (p / 8) + p % 8))
  by_eights p low = ap (sample mid) (omega arith) ∙ (taken (p / 8) (p % 8) (omega (arith, low)) (omega arith) ∙ ap (sample copies) (omega arith))

  -- with those that are left
  module _ (rest : List ℤ) (left : ℕ) (size : length rest ≡ length into - 8 * n) (behind : left ≡ length rest)
      (follow : (i : ℕ) → i < length rest → sample rest i ≡ sample copies (place + 729 * n + i)) where
    abbrev whole : List ℤ
    whole = take (8 * n) mid ++ (rest ++ drop left (drop (8 * n) mid))

    is_whole : whole ≡ row_set (8 * n) rest mid
    is_whole = put_is (8 * n) left rest rest mid refl behind

    room : 8 * n + length rest ≤ length mid
    room = omega (arith, size, count, all)

    pub left_count : length whole ≡ length into
    left_count = ap length is_whole ∙ (length-row_set (8 * n) rest mid room ∙ count)

    pub by_eights_left : (p : ℕ) → p < length into → sample whole p ≡ sample copies (place + (729 * (p / 8) + p % 8))
    by_eights_left p low =
        ap (λ l. sample l p) is_whole ∙ elim (cases_lt p (8 * n)) [
          | inl l ↦ row_set_before (8 * n) rest mid room p l ∙ by_eights p l
          | inr h ↦ (
              let brick : p / 8 ≡ n = omega (arith, all, h, low) in
              row_set_within (8 * n) rest mid room p h (omega (arith, size, low, all))
              ∙ (follow (p - 8 * n) (omega (arith, size, low, h)) ∙ ap (sample copies) (omega (arith, brick, h))))
        ]

-- the copies from a point on, so many as the first brick has that holds it
pub first_are : (g : Grid) (copies : List ℤ) (p : Point) (start n : ℕ) → IsGrid g → AreCopies g copies → IsPoint g p → start ≡ first_copy_place g p → n ≤ row_rest g p
    → (d : ℕ) → d < n → sample copies (start + d) ≡ sample (samples_of g copies) (index_of g p + d)
first_are g copies p start n is are at place few d low =
    let b : ℕ = brick_at g (first_brick_along p.x) (first_brick_along p.y) (first_brick_along p.z) in
    let x : ℕ = p.x - 8 * first_brick_along p.x in
    let y : ℕ = p.y - 8 * first_brick_along p.y in
    let z : ℕ = p.z - 8 * first_brick_along p.z in
    let first : IsHome g p = home_of g p is at in
    let inside : IsIn g b x y z = is_in g b x y z first.inside in
    let placed : IsPlaced g b (first_brick_along p.x) (first_brick_along p.y) (first_brick_along p.z)
    = places g (first_brick_along p.x) (first_brick_along p.y) (first_brick_along p.z) (let h = is.x.least in omega (arith, at.x)) (let h = is.y.least in omega (arith, at.y)) (let h = is.z.least in omega (arith, at.z)) in
    ap (sample copies) (ap (λ a. a + d) place ∙ on b x (9 * (y + 9 * z)))
    ∙ (are.each b (x + d) y z first.brick (omega (arith, few, low, at.x)) (omega arith) (omega arith)
    (in_is g b (x + d) y z (record { x_in = omega (arith, placed.x_start, few, low, at.x); y_in = inside.y_in; z_in = inside.z_in }))
    ∙ ap (sample (samples_of g copies))
    (further (brick_start g b 0) x (g.nx * (brick_start g b 1 + y + g.ny * (brick_start g b 2 + z))) ∙ ap (λ a. a + d) first.point))
  where
    on : (b x r : ℕ) → 729 * b + (x + r) + d ≡ 729 * b + (x + d + r)
    on b x r = omega arith

    further : (a x r : ℕ) → a + (x + d) + r ≡ a + x + r + d
    further a x r = omega arith

-- the points that follow one that is the second of a brick along x
module _ (g : Grid) (copies : List ℤ) (p : Point) (n start : ℕ) (is : IsGrid g) (are : AreCopies g copies) (at : IsPoint g p) (second : p.x ≡ 8 * first_brick_along p.x + 1)
    (fits : p.x + n ≤ g.nx) (begins : start ≡ first_copy_place g p) where
  abbrev further : ℕ → Point
  further d = record p { x = p.x + d }

  further_in : (d : ℕ) → d < n → IsPoint g (further d)
  further_in d low = record { x = omega (arith, fits, low); y = at.y; z = at.z }

  -- where the copy of such a point is
  pub place_on : (d : ℕ) → d < n → start + (729 * (d / 8) + d % 8) ≡ first_copy_place g (further d)
  place_on d low =
      ap (λ s. s + (729 * (d / 8) + d % 8)) begins
      ∙ there p.x (first_brick_along p.x) (first_brick_along (p.x + d)) d (bricks_along g 0 * (first_brick_along p.y + bricks_along g 1 * first_brick_along p.z)) (9 * (p.y - 8 * first_brick_along p.y + 9 * (p.z - 8 * first_brick_along p.z)))
      second (omega (arith, second))
    where
      there : (x h h' d b r : ℕ) → x ≡ 8 * h + 1 → h' ≡ h + d / 8
          → 729 * (h + b) + (x - 8 * h + r) + (729 * (d / 8) + d % 8) ≡ 729 * (h' + b) + (x + d - 8 * h' + r)
      there x h h' d b r ex eh = omega (arith, ex, eh)

  -- it is one of the copies
  pub place_on_low : (d : ℕ) → d < n → start + (729 * (d / 8) + d % 8) < length copies
  place_on_low d low =
      let q : Point = record p { x = p.x + d } in
      let first : IsHome g q = home_of g q is (further_in d low) in
      inside (brick_at g (first_brick_along q.x) (first_brick_along q.y) (first_brick_along q.z)) (brick_count g) (q.x - 8 * first_brick_along q.x) (q.y - 8 * first_brick_along q.y) (q.z - 8 * first_brick_along q.z) first.brick
      (omega arith) (omega arith) (omega arith) _ (place_on d low) (length copies) are.count
    where
      inside : (b k x y z : ℕ) → b < k → x < 9 → y < 9 → z < 9 → (s : ℕ) → s ≡ copy_place b x y z → (len : ℕ) → len ≡ 729 * k → s < len
      inside b k x y z h hx hy hz s e len f = omega (arith, e, f)

  -- what was copied from there is what follows in the row
  pub row_on : (new : List ℤ) → length new ≡ n → ((d : ℕ) → d < n → sample new d ≡ sample copies (start + (729 * (d / 8) + d % 8)))
      → new ≡ map (λ d. sample (samples_of g copies) (index_of g p + d)) (below n)
  row_on new count each =
      ext_get_or (pos 0) new (map f (below n)) (count ∙ sym (length-map-range_with_len f 0 n)) (λ d h.
      let low : d < n = subst (λ m. d < m) count h in
      let q : Point = record p { x = p.x + d } in
      let in_grid : IsPoint g q = further_in d low in
      each d low
      ∙ (ap (sample copies) (place_on d low)
      ∙ (sample_at g copies q in_grid (index_in g q.x q.y q.z in_grid.x in_grid.y in_grid.z)
      ∙ (ap (sample (samples_of g copies)) (moved p.x d (g.nx * (p.y + g.ny * p.z)))
      ∙ sym (get_or-map-range_with_len f 0 n d d (pos 0) low (omega arith))))))
    where
      f : ℕ → ℤ
      f d = sample (samples_of g copies) (index_of g p + d)

      moved : (x d r : ℕ) → x + d + r ≡ x + r + d
      moved x d r = omega arith

-- the point behind those that the first brick has is the second of the next one
pub next_second : (g : Grid) (p : Point) (begun n x : ℕ) → IsPoint g p → begun ≡ min (row_rest g p) n → begun < n → p.x + n ≤ g.nx → x ≡ p.x + begun → x ≡ 8 * first_brick_along x + 1
next_second g p begun n x at first less fits e = omega (arith, at.x, first, less, fits, e)

-- the samples of the first brick, and those that follow
module _ (f : ℕ → ℤ) (into first : List ℤ) (n begun : ℕ) (many : n ≡ length into) (size : length first ≡ begun) (fits : begun ≤ n)
    (each : (d : ℕ) → d < begun → sample first d ≡ f d) where
  abbrev mid : List ℤ
  mid = first ++ drop begun into

  long : length mid ≡ n
  long = length-append first (drop begun into) ∙ omega (arith, size, many, fits, length-drop begun into)

  -- where the first brick has all of them
  pub all_taken : begun ≡ n → mid ≡ map f (below n)
  all_taken all =
      ap (λ l. first ++ l) (drop_all begun into (omega (arith, all, many))) ∙ (append-nil first
      ∙ ext_get_or (pos 0) first (map f (below n)) (size ∙ (all ∙ sym (length-map-range_with_len f 0 n))) (λ d h.
      each d (omega (arith, size, h)) ∙ sym (get_or-map-range_with_len f 0 n d d (pos 0) (omega (arith, size, h, all)) (omega arith))))

  pub both_taken : (after : ℕ → ℤ) (rest : List ℤ) → rest ≡ map after (below (length (take (length mid - begun) (drop begun mid))))
      → ((d : ℕ) → after d ≡ f (begun + d))
      → take begun mid ++ (rest ++ drop (length mid - begun) (drop begun mid)) ≡ map f (below n)
  both_taken after rest then on =
      let left : length (take (length mid - begun) (drop begun mid)) ≡ n - begun
      = length-take-le (length mid - begun) (drop begun mid) (omega (arith, length-drop begun mid)) ∙ ap (λ m. m - begun) long in
      let is : rest ≡ map after (below (n - begun)) = then ∙ ap (λ m. map after (below m)) left in
      let len : length rest ≡ n - begun = ap length is ∙ length-map-range_with_len after 0 (n - begun) in
      let room : begun + length rest ≤ length mid = omega (arith, len, long, fits) in
      put_is begun (length mid - begun) rest rest mid refl (ap (λ m. m - begun) long ∙ sym len)
      ∙ ext_get_or (pos 0) (row_set begun rest mid) (map f (below n)) (length-row_set begun rest mid room ∙ (long ∙ sym (length-map-range_with_len f 0 n))) (λ p h.
      let low : p < n = subst (λ k. p < k) (length-row_set begun rest mid room ∙ long) h in
      elim (cases_lt p begun) [
        | inl l ↦ row_set_before begun rest mid room p l ∙ (get_or_append_left first (drop begun into) (pos 0) p (omega (arith, size, l)) ∙ each p l)
        | inr b ↦ row_set_within begun rest mid room p b (omega (arith, len, low))
            ∙ (ap (λ q. sample q (p - begun)) is
            ∙ (get_or-map-range_with_len after 0 (n - begun) (p - begun) (p - begun) (pos 0) (omega (arith, low, b)) (omega arith)
            ∙ (on (p - begun) ∙ ap f (omega (arith, b)))))
      ]
      ∙ sym (get_or-map-range_with_len f 0 n p p (pos 0) low (omega arith)))
