-- The lowest bit that is set in a number, and the others.
use Rattle.std.proofs.Common.{◌≡◌, ◌≢◌, ◌⊎◌, ℕ, zero, suc, ◌*◌, ◌%◌, ◌^◌, ◌<◌, ◌≤◌, sym, ap, subst, ◌∙◌, arith, inl, inr, w64}
use Rattle.std.specs.Int.{bit_at, trailing_zeros}
use Rattle.std.specs.Int.Bits.{bit_or, bit_xor}
use Rattle.std.specs.Int.Count.{trailing_of_zero}
use Rattle.std.proofs.Math.Pow.{pow-lt}
use Rattle.std.proofs.lemmas.Bool.{cases_lt}
use Rattle.std.proofs.lemmas.Nat.{trailing_le, xor_lt}
use Rattle.std.proofs.lemmas.Nat.Bits.{bit_at-lt, bit_at-pow_other, bit_at-pow_same, bit_at-trailing_zeros, bit_at-zero, bit_at_or, bit_at_xor}

-- below it none is set, nor where none is set at all
pub none_below : (n k : ℕ) → n < 2 ^ 64 → k < trailing_zeros w64 n → bit_at n k ≡ 0
none_below zero k fits low = bit_at-zero k
none_below (suc n) k fits low = (bit_at-trailing_zeros w64 (suc n) (omega arith) fits).2 k low

lowest_set : (n : ℕ) → n < 2 ^ 64 → (trailing_zeros w64 n ≡ 64) ⊎ (bit_at n (trailing_zeros w64 n) ≡ 1)
lowest_set zero fits = inl (trailing_of_zero 64)
lowest_set (suc n) fits = inr (bit_at-trailing_zeros w64 (suc n) (omega arith) fits).1

pub places : (n : ℕ) → trailing_zeros w64 n ≤ 64
places n = trailing_le 64 n

-- without it
module _ (n next : ℕ) (some : 0 < n) (fits : n < 2 ^ 64) (is : next ≡ bit_xor n (1 * 2 ^ trailing_zeros w64 n % 2 ^ 64)) where
  abbrev place : ℕ
  place = trailing_zeros w64 n

  pub within : place < 64
  within = (bit_at-trailing_zeros w64 n some fits).0

  pub lowest_is_set : bit_at n place ≡ 1
  lowest_is_set = (bit_at-trailing_zeros w64 n some fits).1

  flipped : next ≡ bit_xor n (2 ^ place)
  flipped = let one : 1 * 2 ^ place % 2 ^ 64 ≡ 2 ^ place = omega (arith, pow-lt within) in is ∙ ap (bit_xor n) one

  pub next_fits : next < 2 ^ 64
  next_fits = subst (λ m. m < 2 ^ 64) (sym flipped) (xor_lt 64 n (2 ^ place) fits (pow-lt within))

  pub same_bit : (k : ℕ) → k ≢ place → bit_at next k ≡ bit_at n k
  same_bit k other = ap (λ n. bit_at n k) flipped ∙ (bit_at_xor n (2 ^ place) k ∙ omega (arith, bit_at-pow_other place k other, bit_at-lt n k))

  pub gone : bit_at next place ≡ 0
  gone = ap (λ n. bit_at n place) flipped ∙ (bit_at_xor n (2 ^ place) place ∙ omega (arith, lowest_is_set, bit_at-pow_same place))

  pub later : place < trailing_zeros w64 next
  later = elim (lowest_set next next_fits) [
    | inl all ↦ omega (arith, within, all)
    | inr one ↦ elim (cases_lt place (trailing_zeros w64 next)) [
      | inl less ↦ less
      | inr high ↦ elim (cases_lt (trailing_zeros w64 next) place) [
        | inl below ↦ absurd (omega (arith, one, same_bit (trailing_zeros w64 next) (λ e. omega (arith, e, below)), none_below n (trailing_zeros w64 next) fits below))
        | inr level ↦ (
            let same : trailing_zeros w64 next ≡ place = omega (arith, high, level) in
            absurd (omega (arith, one, ap (bit_at next) same, gone)))
      ]
    ]
  ]

-- one bit more
module _ (set bit place : ℕ) (few : bit < 2) (low : place < 64) where
  abbrev more : ℕ
  more = bit_or set (bit * 2 ^ place % 2 ^ 64)

  one_or_none : (bit ≡ 0) ⊎ (bit ≡ 1)
  one_or_none = elim (cases_lt 0 bit) [
    | inl some ↦ inr (omega arith)
    | inr none ↦ inl (omega arith)
  ]

  power : 1 * 2 ^ place % 2 ^ 64 ≡ 2 ^ place
  power = omega (arith, pow-lt low)

  nothing : bit ≡ 0 → bit * 2 ^ place % 2 ^ 64 ≡ 0
  nothing none = let e : 0 * 2 ^ place % 2 ^ 64 ≡ 0 = omega arith in ap (λ b. b * 2 ^ place % 2 ^ 64) none ∙ e

  bit_here : bit_at (bit * 2 ^ place % 2 ^ 64) place ≡ bit
  bit_here = elim one_or_none [
    | inl none ↦ ap (λ n. bit_at n place) (nothing none) ∙ (bit_at-zero place ∙ sym none)
    | inr one ↦ ap (λ b. bit_at (b * 2 ^ place % 2 ^ 64) place) one ∙ (ap (λ n. bit_at n place) power ∙ (bit_at-pow_same place ∙ sym one))
  ]

  bit_other : (k : ℕ) → k ≢ place → bit_at (bit * 2 ^ place % 2 ^ 64) k ≡ 0
  bit_other k other = elim one_or_none [
    | inl none ↦ ap (λ n. bit_at n k) (nothing none) ∙ bit_at-zero k
    | inr one ↦ ap (λ b. bit_at (b * 2 ^ place % 2 ^ 64) k) one ∙ (ap (λ n. bit_at n k) power ∙ bit_at-pow_other place k other)
  ]

  -- with the bits of another set
  pub joined_other : (rest next k : ℕ) → bit_at next k ≡ bit_at rest k → k ≢ place → bit_at (bit_or next more) k ≡ bit_at (bit_or rest set) k
  joined_other rest next k same other =
      omega (arith, bit_at_or next more k, bit_at_or rest set k, bit_at_or set (bit * 2 ^ place % 2 ^ 64) k, same, bit_other k other)

  pub joined_here : (next : ℕ) → bit_at (bit_or next more) place ≡ 0 → bit ≡ 0
  joined_here next none =
      omega (arith, bit_at_or next more place, bit_at_or set (bit * 2 ^ place % 2 ^ 64) place, none, bit_here)

-- a bit of two sets
pub set_in_both : (rest set k : ℕ) → bit_at rest k ≡ 1 → bit_at (bit_or rest set) k ≡ 1
set_in_both rest set k one = omega (arith, bit_at_or rest set k, one, bit_at-lt set k)
