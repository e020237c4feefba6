-- Eight bytes as lanes.
use Rattle.std.proofs.Common.{◌≡◌, ◌∙◌, ℕ, ◌+◌, ◌*◌, ◌%◌, ◌<◌, ◌≤◌, ◌^◌, All, List, length, get_or, replicate, sym, ap, ap₂, arith}
use Rattle.std.specs.Simd.Lanes.{zip2}
use Rattle.std.proofs.lemmas.Simd.{get_or-replicate, get_or-zip2, length-zip2}
use Rattle.row_bits.proofs.Lanes.{lane_sum, lanes_from, lanes_from_are, lanes_from_long}
use Rattle.brick_mesh.specs.Signs.{AreEight, byte_in, pair_in}

pub eight_are : (run : List ℕ) (at : ℕ) → at + 8 ≤ length run → AreEight (λ i. get_or run (at + i) 0) (lanes_from 8 run at)
eight_are run at room = record { count = lanes_from_long 8 run at 0 room; each = lanes_from_are 8 run at 0 room }

-- the product of two lanes
abbrev pub lane_product : ℕ → ℕ → ℕ
lane_product a b = a * b % 2 ^ 8

-- a lane with so many times another
module _ (low high : List ℕ) (long-low : length low ≡ 8) (long-high : length high ≡ 8) (number : ℕ) where
  with_more : (i : ℕ) → i < 8 → get_or (zip2 lane_sum low (zip2 lane_product (replicate 8 number) high)) i 0 ≡ lane_sum (get_or low i 0) (lane_product number (get_or high i 0))
  with_more i h =
      let long : length (zip2 lane_product (replicate 8 number) high) ≡ 8 = length-zip2 lane_product (replicate 8 number) high (sym long-high) in
      get_or-zip2 lane_sum low (zip2 lane_product (replicate 8 number) high) i 0 0 0 (omega (arith, long-low)) (omega (arith, long))
      ∙ ap (lane_sum (get_or low i 0))
      (get_or-zip2 lane_product (replicate 8 number) high i 0 0 0 h (omega (arith, long-high)) ∙ ap (λ n. lane_product n (get_or high i 0)) (get_or-replicate 8 i number 0 h))

  long_more : length (zip2 lane_sum low (zip2 lane_product (replicate 8 number) high)) ≡ 8
  long_more =
      let long : length (zip2 lane_product (replicate 8 number) high) ≡ 8 = length-zip2 lane_product (replicate 8 number) high (sym long-high) in
      length-zip2 lane_sum low (zip2 lane_product (replicate 8 number) high) (long-low ∙ sym long) ∙ long-low

small_pair : (a b : ℕ) → a ≤ 1 → b ≤ 1 → lane_sum a (lane_product 2 b) ≡ a + 2 * b
small_pair a b la lb = omega arith

-- signs with twice those behind them
pub pairs_are : (signs : List ℕ) (start : ℕ) (first second : List ℕ) → start + 9 ≤ length signs → All (λ s. s ≤ 1) signs
    → AreEight (λ i. get_or signs (start + i) 0) first → AreEight (λ i. get_or signs (start + 1 + i) 0) second
    → AreEight (λ x. pair_in signs (start + x)) (zip2 lane_sum first (zip2 lane_product (replicate 8 2) second))
pairs_are signs start first second room low f s = record {
  count = long_more first second f.count s.count 2;
  each = λ i h.
      (let behind : start + 1 + i ≡ start + i + 1 = omega arith in
      with_more first second f.count s.count 2 i h
      ∙ ap₂ (λ a b. lane_sum a (lane_product 2 b)) (f.each i h) (s.each i h ∙ ap (λ k. get_or signs k 0) behind)
      ∙ small_pair (get_or signs (start + i) 0) (get_or signs (start + i + 1) 0) (low (start + i) 0 (omega arith)) (low (start + i + 1) 0 (omega arith)));
}

small_byte : (n u f t : ℕ) → n ≤ 3 → u ≤ 3 → f ≤ 3 → t ≤ 3
    → lane_sum (lane_sum n (lane_product 4 u)) (lane_product 16 (lane_sum f (lane_product 4 t))) ≡ n + 4 * (u + 4 * (f + 4 * t))
small_byte n u f t ln lu lf lt =
    let lower : lane_sum n (lane_product 4 u) ≡ n + 4 * u = omega arith in
    let upper : lane_sum f (lane_product 4 t) ≡ f + 4 * t = omega arith in
    ap₂ (λ a b. lane_sum a (lane_product 16 b)) lower upper ∙ whole (n + 4 * u) (f + 4 * t) (omega arith) (omega arith) ∙ omega arith
  where
    whole : (a b : ℕ) → a ≤ 15 → b ≤ 15 → lane_sum a (lane_product 16 b) ≡ a + 16 * b
    whole a b la lb = omega arith

module _ (near up far both : List ℕ) (n : length near ≡ 8) (u : length up ≡ 8) (f : length far ≡ 8) (t : length both ≡ 8) where
  abbrev lower : List ℕ
  lower = zip2 lane_sum near (zip2 lane_product (replicate 8 4) up)

  abbrev upper : List ℕ
  upper = zip2 lane_sum far (zip2 lane_product (replicate 8 4) both)

  pub bytes_are : All (λ pair. pair ≤ 3) near → All (λ pair. pair ≤ 3) up → All (λ pair. pair ≤ 3) far → All (λ pair. pair ≤ 3) both
      → (x : ℕ) → x < 8 → get_or (zip2 lane_sum lower (zip2 lane_product (replicate 8 16) upper)) x 0 ≡ byte_in near up far both x
  bytes_are ln lu lf lt x h =
      with_more lower upper (long_more near up n u 4) (long_more far both f t 4) 16 x h
      ∙ ap₂ (λ a b. lane_sum a (lane_product 16 b)) (with_more near up n u 4 x h) (with_more far both f t 4 x h)
      ∙ small_byte (get_or near x 0) (get_or up x 0) (get_or far x 0) (get_or both x 0)
      (ln x 0 (omega arith)) (lu x 0 (omega arith)) (lf x 0 (omega arith)) (lt x 0 (omega arith))
