-- The signs of the rows of a brick.
use Rattle.std.proofs.Common.{◌≡◌, ◌∙◌, ℕ, ◌+◌, ◌*◌, ◌/◌, ◌%◌, ◌<◌, ◌≤◌, ℤ, List, [], length, map, pos, ext_get_or, get_or, set, replicate, take, drop, sym, ap, ap₂, subst, arith, All, below_more, get_or-set_same, get_or-set_other, ◌≢◌, true}
use Rattle.iso_base.specs.Volume.{sample, is_above_level, shifted}
use Rattle.std.specs.Prelude.{Bool, false, if◌then◌else◌}
use Rattle.std.proofs.lemmas.List.{get_or_default, get_or-drop, get_or-map, get_or-replicate, get_or-take, length-drop, length-map, length-take-le}
use Rattle.brick_mesh.specs.Block.{BrickAt, HasPoint}
use Rattle.brick_store.specs.Copies.{AreCopiesOf}
use Rattle.samples.specs.Signs.{sign_of}
use Rattle.samples.proofs.Lists.{part}
use Rattle.brick_mesh.specs.Signs.{AreEight, ArePairs, AreRows, bit_at, bit_of, pair_in}

pub bit_low : (test : Bool) → (if test then 1 else 0) ≤ 1
bit_low true = omega arith
bit_low false = omega arith

pair_low : (a b : ℕ) → a ≤ 1 → b ≤ 1 → a + 2 * b ≤ 3
pair_low a b la lb = omega arith

-- signs are at most 1
pub signs_low : (level : ℤ) (copies : List ℤ) (signs : List ℕ) → signs ≡ map (sign_of level) copies → All (λ s. s ≤ 1) signs
signs_low level copies signs is = λ k d h.
    let room : k < length copies = omega (arith, h, ap length is, length-map copies (sign_of level)) in
    subst (λ n. n ≤ 1)
    (sym (get_or_default signs k d 0 h ∙ ap (λ l. get_or l k 0) is ∙ get_or-map (sign_of level) copies k (pos 0) 0 room))
    (bit_low (is_above_level (sample copies k) level))

-- the sign of a copy
sign_told : (level : ℤ) (copies : List ℤ) (signs : List ℕ) (place : ℕ) → signs ≡ map (sign_of level) copies → place < length copies
    → get_or signs place 0 ≡ sign_of level (sample copies place)
sign_told level copies signs place is low = ap (λ l. get_or l place 0) is ∙ get_or-map (sign_of level) copies place (pos 0) 0 low

-- and where the signs are told of a part of the copies
pub part_told : {X : Type 0} (value : X → ℤ) (xs : List X) (level : ℤ) (signs : List ℕ) (start count m k : ℕ) → m ≡ count
    → signs ≡ map (sign_of level) (map value (take m (drop start xs))) → start + count ≤ length xs → k < count
    → get_or signs k 0 ≡ sign_of level (sample (map value xs) (start + k))
part_told value xs level signs start count m k e is room low =
    let copies = map value xs in
    let long : length copies ≡ length xs = length-map xs value in
    let size : length (take count (drop start copies)) ≡ count = length-take-le count (drop start copies) (omega (arith, length-drop start copies, long, room)) in
    sign_told level (take count (drop start copies)) signs k (is ∙ ap (map (sign_of level)) (part value xs start count m e)) (omega (arith, size, low))
    ∙ ap (sign_of level) (get_or-take count (drop start copies) k (pos 0) low ∙ get_or-drop start copies k (pos 0))

-- the pairs of nine signs from a place on are those of a row of points, where they are those of its copies
pub nine_paired : (b : BrickAt) (copies : List ℤ) (signs : List ℕ) (start y z : ℕ) (pairs : List ℕ) → y < 9 → z < 9
    → AreCopiesOf b.grid b.samples b.brick copies
    → ((x : ℕ) → x < 9 → get_or signs (start + x) 0 ≡ sign_of b.level (sample copies (x + 9 * (y + 9 * z))))
    → AreEight (λ x. pair_in signs (start + x)) pairs → ArePairs b y z pairs
nine_paired b copies signs start y z pairs y-low z-low are told eight = record {
  count = eight.count;
  bits = λ k d h.
      subst (λ n. n ≤ 3) (sym (get_or_default pairs k d 0 h ∙ eight.each k (omega (arith, eight.count))))
      (pair_low _ _ (one_low k (start + k) (omega (arith, h, eight.count)) (omega arith)) (one_low (k + 1) (start + k + 1) (omega (arith, h, eight.count)) (omega arith)));
  each = λ x h here behind.
      eight.each x h
      ∙ ap₂ (λ a c. a + 2 * c) (bit_is x (start + x) (omega arith) (omega arith) here) (bit_is (x + 1) (start + x + 1) (omega arith) (omega arith) behind);
}
  where
    sign_is : (x place : ℕ) → x < 9 → place ≡ start + x → get_or signs place 0 ≡ sign_of b.level (sample copies (x + 9 * (y + 9 * z)))
    sign_is x place low at = ap (λ p. get_or signs p 0) at ∙ told x low

    one_low : (x place : ℕ) → x < 9 → place ≡ start + x → get_or signs place 0 ≤ 1
    one_low x place low at =
        subst (λ n. n ≤ 1) (sym (sign_is x place low at)) (bit_low (is_above_level (sample copies (x + 9 * (y + 9 * z))) b.level))

    bit_is : (x place : ℕ) → x < 9 → place ≡ start + x → HasPoint b x y z → get_or signs place 0 ≡ bit_at b x y z
    bit_is x place low at there =
        sign_is x place low at ∙ ap (λ v. bit_of (shifted v b.level)) (are.each x y z low y-low z-low there)

-- the pairs of the signs of the copies of a row are those of its points
pub row_paired : (b : BrickAt) (copies : List ℤ) (signs : List ℕ) (row : ℕ) (pairs : List ℕ) → row < 81
    → AreCopiesOf b.grid b.samples b.brick copies → signs ≡ map (sign_of b.level) copies
    → AreEight (λ x. pair_in signs (9 * row + x)) pairs → ArePairs b (row % 9) (row / 9) pairs
row_paired b copies signs row pairs low are is eight =
    nine_paired b copies signs (9 * row) (row % 9) (row / 9) pairs (omega arith) (omega arith) are
    (λ x h.
    (let at : 9 * row + x ≡ x + 9 * (row % 9 + 9 * (row / 9)) = omega arith in
    sign_told b.level copies signs (9 * row + x) is (omega (arith, are.count)) ∙ ap (λ p. sign_of b.level (sample copies p)) at))
    eight

-- two rows of points, this one and the next one along y, from the signs of the part of the copies where they lie
pub two_paired : {X : Type 0} (b : BrickAt) (value : X → ℤ) (xs : List X) (signs : List ℕ) (start m y z : ℕ) (first second : List ℕ)
    → AreCopiesOf b.grid b.samples b.brick (map value xs) → start ≡ 9 * (y + 9 * z) → m ≡ 18 → y < 8 → z < 9
    → signs ≡ map (sign_of b.level) (map value (take m (drop start xs)))
    → AreEight (λ x. pair_in signs (0 + x)) first → AreEight (λ x. pair_in signs (9 + x)) second
    → (ArePairs b y z first) × (ArePairs b (y + 1) z second)
two_paired b value xs signs start m y z first second are from eighteen y-low z-low is one two =
    let long : length (map value xs) ≡ length xs = length-map xs value in
    let told : (k p : ℕ) → k < 18 → start + k ≡ p → get_or signs k 0 ≡ sign_of b.level (sample (map value xs) p)
    = λ k p low e.
    part_told value xs b.level signs start 18 m k eighteen is (omega (arith, are.count, long)) low ∙ ap (λ p. sign_of b.level (sample (map value xs) p)) e in (
      nine_paired b (map value xs) signs 0 y z first (omega arith) z-low are (λ x h. told (0 + x) (x + 9 * (y + 9 * z)) (omega arith) (omega arith)) one,
      nine_paired b (map value xs) signs 9 (y + 1) z second (omega arith) z-low are (λ x h. told (9 + x) (x + 9 * (y + 1 + 9 * z)) (omega arith) (omega arith)) two,
    )

-- one more row has its signs
pub rows_more : (b : BrickAt) (rows : List (List ℕ)) (row : ℕ) (signs : List ℕ) → row < length rows → AreRows b row rows
    → ArePairs b (row % 9) (row / 9) signs → AreRows b (row + 1) (set rows row signs)
rows_more b rows row signs room before here =
    below_more (λ k. ArePairs b (k % 9) (k / 9) (get_or (set rows row signs) k [])) row
    (λ k h. let other : k ≢ row = omega arith in
    subst (ArePairs b (k % 9) (k / 9)) (sym (get_or-set_other rows row k signs [] other)) (before k h))
    (subst (ArePairs b (row % 9) (row / 9)) (sym (get_or-set_same rows row signs [] room)) here)

-- a list that is one number throughout
pub only_copies : (xs : List ℕ) (v : ℕ) → length xs ≡ 8 → ((x : ℕ) → x < 8 → get_or xs x 0 ≡ v) → xs ≡ replicate 8 v
only_copies xs v long only = ext_get_or 0 xs (replicate 8 v) long (λ x low. (let few : x < 8 = omega (arith, low, long) in only x few ∙ sym (get_or-replicate 8 x v 0 few)))
