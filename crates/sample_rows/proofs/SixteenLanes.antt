-- Sixteen bytes as lanes.
use Rattle.std.proofs.Common.{◌≡◌, ◌∙◌, ℕ, ◌+◌, ◌*◌, ◌%◌, ◌^◌, ◌<◌, ◌-◌, List, length, get_or, refl, ap, subst, arith, inl, inr}
use Rattle.std.proofs.lemmas.Bool.{cases_lt}
use Rattle.std.specs.Simd.Lanes.{zip2}
use Rattle.std.proofs.lemmas.Simd.{get_or-zip2, length-zip2}
use Rattle.row_bits.proofs.Lanes.{lane_sum}

-- a lane with twice another
pub doubled : (low high : List ℕ) (k : ℕ) → length low ≡ 16 → length high ≡ 16 → k < 16
    → get_or (zip2 lane_sum low (zip2 lane_sum high high)) k 0 ≡ (get_or low k 0 + 2 * get_or high k 0) % 2 ^ 8
doubled low high k long_low long_high small =
    let long : length (zip2 lane_sum high high) ≡ 16 = length-zip2 lane_sum high high refl ∙ long_high in
    get_or-zip2 lane_sum low (zip2 lane_sum high high) k 0 0 0 (omega (arith, long_low)) (omega (arith, long))
    ∙ ap (lane_sum (get_or low k 0)) (get_or-zip2 lane_sum high high k 0 0 0 (omega (arith, long_high)) (omega (arith, long_high)))
    ∙ whole (get_or low k 0) (get_or high k 0)
  where
    whole : (a b : ℕ) → lane_sum a (lane_sum b b) ≡ (a + 2 * b) % 2 ^ 8
    whole a b = omega arith

-- sixteen numbers of a list behind those before them
pub sixteen_more : (number : ℕ → ℕ) (list : List ℕ) (at : ℕ) → ((x : ℕ) → x < at → get_or list x 0 ≡ number x)
    → ((k : ℕ) → k < 16 → get_or list (at + k) 0 ≡ number (at + k)) → (x : ℕ) → x < at + 16 → get_or list x 0 ≡ number x
sixteen_more number list at before here x low = elim (cases_lt x at) [
  | inl earlier ↦ before x earlier
  | inr late ↦ (
      let k : ℕ = x - at in
      let same : at + k ≡ x = omega (arith, late) in
      subst (λ x. get_or list x 0 ≡ number x) same (here k (omega (arith, late, low))))
]
