-- What the bits of a number say, from the lowest one that is set on.
use Rattle.std.proofs.Common.{◌≡◌, ◌∙◌, ℕ, suc, ◌+◌, ◌/◌, ◌%◌, ◌^◌, ◌<◌, ◌≤◌, ap, subst, sym, inl, inr, arith, shr-shr, w64}
use Rattle.std.specs.Int.{bit_at, trailing_zeros}
use Rattle.std.proofs.Math.Nat.{div-le_self}
use Rattle.std.proofs.lemmas.Bool.{cases_lt}
use Rattle.std.proofs.lemmas.Nat.Bits.{bit_at-suc, bit_at-trailing_zeros, bit_at-zero, bit_at_above}

rest_bit : (n t k : ℕ) → bit_at (n / 2 ^ t / 2) k ≡ bit_at n (t + 1 + k)
rest_bit n t k =
    let e : t + suc k ≡ t + 1 + k = omega arith in
    sym (bit_at-suc (n / 2 ^ t) k) ∙ (ap (λ x. x % 2) (shr-shr n t (suc k)) ∙ ap (bit_at n) e)

-- without the lowest bit that is set and those below it, a number is less
pub rest_less : (n t : ℕ) → 0 < n → n / 2 ^ t / 2 < n
rest_less n t some = omega (arith, some, div-le_self n (2 ^ t))

-- A bit that is not set says something of its place, of those from one place on. No bits stand for places behind the last.
pub record IsTold (P : ℕ → Type 0) (most at n : ℕ) : Type 0 where
  pub low : at ≤ most
  pub unset : (k : ℕ) → at + k < most → bit_at n k ≡ 0 → P (at + k)
  pub above : (k : ℕ) → most ≤ at + k → bit_at n k ≡ 0

module _ (P : ℕ → Type 0) (most : ℕ) where
  pub told_begun : (n : ℕ) → ((k : ℕ) → k < most → bit_at n k ≡ 0 → P k) → ((k : ℕ) → most ≤ k → bit_at n k ≡ 0) → IsTold P most 0 n
  told_begun n each none = record {
    low = omega arith;
    unset = λ k l e. subst P (let z : k ≡ 0 + k = omega arith in z) (each k (omega (arith, l)) e);
    above = λ k l. none k (omega (arith, l));
  }

  -- where there are no bits behind the last place
  pub told_first : (n : ℕ) → n < 2 ^ most → ((k : ℕ) → k < most → bit_at n k ≡ 0 → P k) → IsTold P most 0 n
  told_first n few each = told_begun n each (λ k l. bit_at_above n most k few l)

  module _ (at n : ℕ) (told : IsTold P most at n) where
    -- where no bit is set
    pub told_none : n ≡ 0 → (k : ℕ) → at + k < most → P (at + k)
    told_none none k l = told.unset k l (ap (λ m. bit_at m k) none ∙ bit_at-zero k)

    module _ (some : 0 < n) (fits : n < 2 ^ 64) where
      abbrev t : ℕ
      t = trailing_zeros w64 n

      -- the lowest bit that is set stands for a place
      pub told_low : at + t < most
      told_low =
          elim (cases_lt (at + t) most) [
            | inl low ↦ low
            | inr high ↦ (let set = (bit_at-trailing_zeros w64 n some fits).1 in let none = told.above t high in absurd (omega (arith, set, none)))
          ]

      -- those before it are not set
      pub told_before : (k : ℕ) → k < t → P (at + k)
      told_before k l = told.unset k (omega (arith, l, told_low)) ((bit_at-trailing_zeros w64 n some fits).2 k l)

      -- and those behind it say what they said
      pub told_next : IsTold P most (at + (t + 1)) (n / 2 ^ t / 2)
      told_next = record {
        low = omega (arith, told_low);
        unset = λ k l e.
            let there : at + (t + 1 + k) ≡ at + (t + 1) + k = omega arith in
            subst P there (told.unset (t + 1 + k) (omega (arith, l)) (sym (rest_bit n t k) ∙ e));
        above = λ k l. rest_bit n t k ∙ told.above (t + 1 + k) (omega (arith, l));
      }
