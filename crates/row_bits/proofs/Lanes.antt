-- Neighbours in a list as lanes, and sums of lanes.
use Rattle.std.proofs.Common.{◌≡◌, ◌∙◌, ℕ, ◌+◌, ◌-◌, ◌*◌, ◌%◌, ◌^◌, ◌<◌, ◌≤◌, Bool, true, false, cond, eqb, List, length, get_or, take, drop, refl, ap, arith, zero-add}
use Rattle.std.specs.Simd.Lanes.{chunk}
use Rattle.std.proofs.lemmas.List.{get_or-drop, get_or-take, length-drop, length-take-le}
use Rattle.std.proofs.lemmas.Simd.{get_or-chunk, length-chunk}

-- so many from a place on
abbrev pub lanes_from : {A : Type 0} → ℕ → List A → ℕ → List A
lanes_from n run at = chunk 0 n (take (at + n - at) (drop at run))

module _ {A : Type 0} (n : ℕ) (run : List A) (at : ℕ) (d : A) (room : at + n ≤ length run) where
  pub lanes_from_long : length (lanes_from n run at) ≡ n
  lanes_from_long =
      let front : length (take (at + n - at) (drop at run)) ≡ at + n - at = length-take-le (at + n - at) (drop at run) (omega (arith, length-drop at run)) in
      length-chunk 0 n (take (at + n - at) (drop at run)) (omega (arith, front))

  pub lanes_from_are : (i : ℕ) → i < n → get_or (lanes_from n run at) i d ≡ get_or run (at + i) d
  lanes_from_are i low =
      get_or-chunk 0 n (take (at + n - at) (drop at run)) i d low
      ∙ (ap (λ k. get_or (take (at + n - at) (drop at run)) k d) (zero-add i) ∙ get_or-take (at + n - at) (drop at run) i d (omega arith) ∙ get_or-drop at run i d)

-- the sum of two lanes of a byte
abbrev pub lane_sum : ℕ → ℕ → ℕ
lane_sum a b = (a + b) % 2 ^ 8

-- that of three flags
pub sum_is : (x y z : Bool) → lane_sum (cond x 0 1) (lane_sum (cond y 0 2) (cond z 0 4)) ≡ cond x 0 1 + (2 * cond y 0 1 + 4 * cond z 0 1)
sum_is true true true = refl
sum_is true true false = refl
sum_is true false true = refl
sum_is true false false = refl
sum_is false true true = refl
sum_is false true false = refl
sum_is false false true = refl
sum_is false false false = refl

-- a number where two lanes differ
abbrev pub apart_by : ℕ → List ℕ → List ℕ → ℕ → ℕ
apart_by number a b i = cond (eqb (get_or a i 0) (get_or b i 0)) 0 number
