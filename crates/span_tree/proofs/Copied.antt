-- The samples of a brick among its copies.
use Rattle.std.proofs.Common.{◌≡◌, ℕ, zero, suc, ◌+◌, ◌-◌, ◌*◌, ◌<◌, ◌≤◌, All, List, ◌++◌, length, map, take, drop, sym, ◌∙◌, ap, ap₂, subst, arith, ℤ, pos, zero-add}
use Rattle.std.specs.List.{drop-map, flat_map, range_with_len, take-map}
use borrow.Rule.Slice.PartMut.{put_mid}
use Rattle.std.proofs.lemmas.List.{append-nil, drop-drop, map-append}
use Rattle.std.proofs.lemmas.List.Concat.{flat_map-append}
use Rattle.std.proofs.lemmas.List.Elements.{All-append, All-nil}
use Rattle.std.proofs.lemmas.Slice.{take-put_mid}
use Rattle.std.proofs.Math.Seq.{take-add, take-length}
use Rattle.iso_defs.proofs.Ranges.{range_append}
use Rattle.iso_defs.specs.Lists.{below}
use Rattle.iso_defs.specs.Bricks.{brick_count, brick_point}
use Rattle.iso_base.specs.Volume.{IsSample, Volume, IsVolume, sample}
use Rattle.iso_base.proofs.VolumeLaws.{sample_in_range}
use Rattle.brick_store.specs.Copies.{AreCopiesOf}
use Rattle.brick_store.specs.Holding.{points_along}
use Rattle.brick_store.proofs.Runs.{run_is}
use Rattle.brick_store.proofs.Standing.{brick_point_in, row_samples}
use Rattle.span_tree.specs.Spans.{IsWhole, brick_samples, slice_of, list_span, row_of, span_of}
use Rattle.span_tree.proofs.Active.{IsWide, each_listed, inside, wide}
use Rattle.span_tree.proofs.ListSpans.{in_all}

-- a part of a list of numbers, and the values of that part
pub part_values : {T : Type 0} (value : T → ℤ) (numbers : List T) (start count : ℕ) → map value (take count (drop start numbers)) ≡ take count (drop start (map value numbers))
part_values value numbers start count = sym (take-map value count (drop start numbers)) ∙ ap (take count) (sym (drop-map value start numbers))

-- one list more
flat_more : (f : ℕ → List ℤ) (n : ℕ) → flat_map f (below (n + 1)) ≡ flat_map f (below n) ++ f n
flat_more f n =
    ap (flat_map f) (range_append 0 n 1) ∙ (flat_map-append f (range_with_len 0 n) (range_with_len (0 + n) 1)
    ∙ ap (λ l. flat_map f (below n) ++ l) (append-nil (f (0 + n)) ∙ ap f (zero-add n)))

-- what holds of each item of lists holds of each item of all of them
each_joined : (P : ℤ → Type 0) (f : ℕ → List ℤ) (n : ℕ) → ((k : ℕ) → k < n → All P (f k)) → All P (flat_map f (below n))
each_joined P f zero each = All-nil P
each_joined P f (suc n) each =
    subst (All P) (sym (ap (λ m. flat_map f (below m)) (more n) ∙ flat_more f n))
    (All-append P (flat_map f (below n)) (f n) (each_joined P f n (λ k h. each k (omega arith))) (each n (omega arith)))
  where
    more : (n : ℕ) → suc n ≡ n + 1
    more n = omega arith

none : (size : ℕ) → size * 0 ≡ 0
none size = omega arith

-- lists that are equally long parts of one, from a place on
parts_join : (f : ℕ → List ℤ) (xs : List ℤ) (start size n : ℕ) → ((k : ℕ) → k < n → f k ≡ take size (drop (start + size * k) xs))
    → flat_map f (below n) ≡ take (size * n) (drop start xs)
parts_join f xs start size zero each = sym (ap (λ m. take m (drop start xs)) (none size))
parts_join f xs start size (suc n) each =
    ap (λ m. flat_map f (below m)) (more n)
    ∙ flat_more f n
    ∙ (ap₂ (λ a b. a ++ b) (parts_join f xs start size n (λ k h. each k (omega arith))) (each n (omega arith) ∙ ap (take size) (sym (drop-drop (size * n) start xs)))
    ∙ (sym (take-add (size * n) size (drop start xs)) ∙ ap (λ m. take m (drop start xs)) (last n)))
  where
    more : (n : ℕ) → suc n ≡ n + 1
    more n = omega arith

    last : (n : ℕ) → size * n + size ≡ size * suc n
    last n = omega arith

-- one list more behind those that were put
pub one_more : {T : Type 0} (value : T → ℤ) (f : ℕ → List ℤ) (n start size : ℕ) (old row new : List T) → start ≡ size * n → length row ≡ size → start + size ≤ length old
    → new ≡ put_mid start size old row → map value (take (size * n) old) ≡ flat_map f (below n) → map value row ≡ f n
    → map value (take (size * (n + 1)) new) ≡ flat_map f (below (n + 1))
one_more value f n start size old row new at long room is before one =
    ap (λ l. map value (take (size * (n + 1)) l)) is
    ∙ ap (map value) (take-put_mid start size old row (size * (n + 1)) (omega (arith, at, long)) (omega (arith, room)))
    ∙ map-append value (take start old) row
    ∙ ap₂ (λ a b. a ++ b) (ap (λ k. map value (take k old)) at ∙ before) one
    ∙ sym (flat_more f n)

module _ (v : Volume) (b : ℕ) (copies : List ℤ) (is : IsVolume v) (low : b < brick_count v.grid) (are : AreCopiesOf v.grid v.samples b copies) where
  -- the sample of a point of the brick
  copy_is : (x y z : ℕ) → x < points_along v.grid b 0 → y < points_along v.grid b 1 → z < points_along v.grid b 2
      → sample v.samples (brick_point v.grid b x y z) ≡ sample copies (x + 9 * (y + 9 * z))
  copy_is x y z hx hy hz = sym (are.each x y z (omega arith) (omega arith) (omega arith) (inside v (pos 0) b is low x y z hx hy hz))

  some : 0 < points_along v.grid b 0
  some = let w : IsWide v.grid b = wide v (pos 0) b is low in omega (arith, w.x)

  -- the samples of a row
  pub row_among : (start n y z : ℕ) → start ≡ 9 * (y + 9 * z) → n ≡ points_along v.grid b 0 → y < points_along v.grid b 1 → z < points_along v.grid b 2
      → (0 < n) × ((start + n ≤ length copies) × ((take (start + n - start) (drop start copies) ≡ row_of v b z y) × All IsSample (row_of v b z y)))
  row_among start n y z at size hy hz =
      let fits : start + n ≤ length copies = omega (arith, are.count) in (
        omega (arith, some, size),
        (
          fits,
          (
            run_is copies start (start + n) (points_along v.grid b 0) (λ x. sample v.samples (brick_point v.grid b x y z)) (omega arith) fits (λ x h.
                ap (sample copies) (omega arith) ∙ sym (copy_is x y z h hy hz)),
            row_samples v b y z is (inside v (pos 0) b is low 0 y z some hy hz),
          ),
        ),
      )

  pub slice_samples : (z : ℕ) → z < points_along v.grid b 2 → All IsSample (slice_of v b z)
  slice_samples z hz =
      each_joined IsSample (row_of v b z) (points_along v.grid b 1) (λ y hy. row_samples v b y z is (inside v (pos 0) b is low 0 y z some hy hz))

  -- the copies of whole rows stand one behind the other
  module _ (nine : points_along v.grid b 0 ≡ 9) where
    row_there : (y z : ℕ) → y < points_along v.grid b 1 → z < points_along v.grid b 2 → row_of v b z y ≡ take 9 (drop (81 * z + 9 * y) copies)
    row_there y z hy hz =
        let start : ℕ = 9 * (y + 9 * z) in
        let at : start ≡ 81 * z + 9 * y = omega arith in
        let n : start + 9 - start ≡ 9 = omega arith in
        sym (ap₂ (λ n s. take n (drop s copies)) (sym n) (sym at)
        ∙ (row_among start 9 y z (omega arith) (sym nine) hy hz).1.1.0)

    slice_there : (z : ℕ) → z < points_along v.grid b 2 → slice_of v b z ≡ take (9 * points_along v.grid b 1) (drop (81 * z) copies)
    slice_there z hz = parts_join (row_of v b z) copies (81 * z) 9 (points_along v.grid b 1) (λ y hy. row_there y z hy hz)

    -- those of a slice
    pub slice_among : (start n z : ℕ) → start ≡ 81 * z → n ≡ 9 * points_along v.grid b 1 → z < points_along v.grid b 2
        → (0 < n) × ((start + n ≤ length copies) × ((take (start + n - start) (drop start copies) ≡ slice_of v b z) × All IsSample (slice_of v b z)))
    slice_among start n z at size hz =
        let w : IsWide v.grid b = wide v (pos 0) b is low in (
          omega (arith, size, w.y),
          (
            omega (arith, are.count, at, size, hz),
            (
              ap₂ (λ m s. take m (drop s copies)) (omega (arith, size)) at ∙ sym (slice_there z hz),
              slice_samples z hz,
            ),
          ),
        )

  -- the copies of a brick that lies in the grid are its samples
  module _ (whole : IsWhole v.grid b) where
    whole_slice : (z : ℕ) → z < 9 → slice_of v b z ≡ take 81 (drop (81 * z) copies)
    whole_slice z hz =
        slice_there whole.x z (omega (arith, whole.z))
        ∙ ap (λ n. take (9 * n) (drop (81 * z) copies)) whole.y

    pub samples_are : brick_samples v b ≡ copies
    samples_are =
        ap (λ n. flat_map (slice_of v b) (below n)) whole.z
        ∙ (parts_join (slice_of v b) copies 0 81 9 (λ z hz. whole_slice z hz ∙ ap (λ s. take 81 (drop s copies)) (omega arith))
        ∙ (ap (λ n. take n copies) (sym are.count) ∙ take-length copies))

    pub each_is : All IsSample copies
    each_is =
        subst (All IsSample) samples_are
        (in_all IsSample (brick_samples v b) (each_listed v (pos 0) b is low IsSample (λ x y z hx hy hz.
        sample_in_range v (brick_point v.grid b x y z) is (brick_point_in v.grid b x y z (inside v (pos 0) b is low x y z hx hy hz)))))

    pub span_there : list_span copies ≡ span_of v b
    unfolding span_of
    span_there = ap list_span (sym samples_are)
