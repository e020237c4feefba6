-- The bits that are set in a number.
use Rattle.std.proofs.Common.{◌≡◌, ℕ, zero, suc, ◌+◌, ◌-◌, ◌*◌, ◌/◌, ◌%◌, ◌^◌, ◌<◌, ◌≤◌, Bool, false, cond, List, [], ◌∷◌, ◌++◌, min, refl, sym, ◌∙◌, ap, ap₂, arith, eqb, inl, inr, w64}
use Rattle.std.specs.Int.{bit_at, trailing_zeros}
use Rattle.std.specs.Int.Bits.{bit_and}
use Rattle.std.specs.List.{filter, range_with_len}
use Rattle.std.proofs.Math.Nat.{mod-lt, pow-suc}
use Rattle.std.proofs.lemmas.Bool.{cases_lt}
use Rattle.std.proofs.lemmas.List.Elements.{filter-append}
use Rattle.std.proofs.lemmas.Nat.{div-add-mod', pow_pos}
use Rattle.std.proofs.lemmas.Nat.Bits.{bit_at-pow_other, bit_at-pow_same, bit_at-trailing_zeros, bit_at_and, bit_at_cat_high, bit_at_cat_low, bit_at_ones_above, same_from_bits_below}
use Rattle.iso_defs.proofs.Ranges.{range_append}

abbrev pub is_set : ℕ → ℕ → Bool
is_set n t = eqb (bit_at n t) 1

-- the places of the bits that are set, ascending
unfoldable pub bits_set : ℕ → List ℕ
bits_set n = filter (is_set n) (range_with_len 0 64)

filter_same : (p q : ℕ → Bool) (a n : ℕ) → ((i : ℕ) → a ≤ i → p i ≡ q i) → filter p (range_with_len a n) ≡ filter q (range_with_len a n)
filter_same p q a zero same = refl
filter_same p q a (suc n) same =
    ap₂ (λ b l. cond {A = List ℕ} b (a ∷ l) l) (same a (omega arith)) (filter_same p q (a + 1) n (λ i least. same i (omega arith)))

pub filter_none : (p : ℕ → Bool) (a n : ℕ) → ((i : ℕ) → a ≤ i → i < a + n → p i ≡ false) → filter p (range_with_len a n) ≡ []
filter_none p a zero none = refl
filter_none p a (suc n) none =
    ap (λ b. cond {A = List ℕ} b (a ∷ filter p (range_with_len (a + 1) n)) (filter p (range_with_len (a + 1) n))) (none a (omega arith) (omega arith))
    ∙ filter_none p (a + 1) n (λ i least most. none i (omega arith) (omega arith))

-- where a place in 64 cuts the bits
bits_cut : (n t : ℕ) → t < 64 → bits_set n ≡ filter (is_set n) (range_with_len 0 t) ++ filter (is_set n) (t ∷ range_with_len (t + 1) (63 - t))
unfolding bits_set
bits_cut n t low =
    let all : 64 ≡ t + suc (63 - t) = omega arith in
    let zero_out : 0 + t ≡ t = omega arith in
    ap (λ k. filter (is_set n) (range_with_len 0 k)) all
    ∙ (ap (filter (is_set n)) (range_append 0 t (suc (63 - t)) ∙ ap (λ a. range_with_len 0 t ++ range_with_len a (suc (63 - t))) zero_out)
    ∙ filter-append (is_set n) (range_with_len 0 t) (range_with_len t (suc (63 - t))))

pub bits_none : bits_set 0 ≡ []
unfolding bits_set
bits_none = refl

-- a number and the one below it are the same above the lowest bit that is set
module _ (n t : ℕ) (set : bit_at n t ≡ 1) (below : (i : ℕ) → i < t → bit_at n i ≡ 0) where
  abbrev high : ℕ
  high = n / 2 ^ (t + 1)

  abbrev low : ℕ
  low = n % 2 ^ (t + 1)

  parts : high * 2 ^ (t + 1) + low ≡ n
  parts = div-add-mod' n (2 ^ (t + 1))

  twice : 2 ^ (t + 1) ≡ 2 ^ t * 2
  twice = let e : t + 1 ≡ suc t = omega arith in ap (λ k. 2 ^ k) e ∙ pow-suc 2 t

  some : 0 < 2 ^ t
  some = pow_pos t

  low_bit : (i : ℕ) → i < t + 1 → bit_at low i ≡ bit_at n i
  low_bit i h = sym (bit_at_cat_low high (t + 1) low i h) ∙ ap (λ m. bit_at m i) parts

  low_is : low ≡ 2 ^ t
  low_is =
      same_from_bits_below (t + 1) low (2 ^ t) (mod-lt n (pow_pos (t + 1))) (omega (arith, twice, some))
      (λ i h. elim (cases_lt i t) [
        | inl less ↦ low_bit i h ∙ (below i less ∙ sym (bit_at-pow_other t i (λ e. omega (arith, e, less))))
        | inr last ↦ let e : i ≡ t = omega arith in low_bit i h ∙ (ap (bit_at n) e ∙ (set ∙ sym (ap (bit_at (2 ^ t)) e ∙ bit_at-pow_same t)))
      ])

  less_one : n - 1 ≡ high * 2 ^ (t + 1) + (2 ^ t - 1)
  less_one = omega (arith, parts, low_is, some)

  and_below : (i : ℕ) → i < t → bit_at (bit_and n (n - 1)) i ≡ 0
  and_below i h = bit_at_and n (n - 1) i ∙ (ap (λ b. min b (bit_at (n - 1) i)) (below i h) ∙ min_none (bit_at (n - 1) i))
    where
      min_none : (b : ℕ) → min 0 b ≡ 0
      min_none b = omega arith

  and_here : bit_at (bit_and n (n - 1)) t ≡ 0
  and_here =
      let none : bit_at (n - 1) t ≡ 0 = ap (λ m. bit_at m t) less_one ∙ (bit_at_cat_low high (t + 1) (2 ^ t - 1) t (omega arith) ∙ bit_at_ones_above t t (omega arith)) in
      bit_at_and n (n - 1) t ∙ ap₂ min set none

  and_above : (i : ℕ) → t + 1 ≤ i → bit_at (bit_and n (n - 1)) i ≡ bit_at n i
  and_above i h =
      let one : bit_at (n - 1) i ≡ bit_at high (i - (t + 1)) = ap (λ m. bit_at m i) less_one ∙ bit_at_cat_high high (t + 1) (2 ^ t - 1) i (omega (arith, twice, some)) h in
      let all : bit_at n i ≡ bit_at high (i - (t + 1)) = ap (λ m. bit_at m i) (sym parts) ∙ bit_at_cat_high high (t + 1) low i (mod-lt n (pow_pos (t + 1))) h in
      bit_at_and n (n - 1) i ∙ (ap (min (bit_at n i)) (one ∙ sym all) ∙ min_same (bit_at n i))
    where
      min_same : (a : ℕ) → min a a ≡ a
      min_same a = omega arith

  cleared : t < 64 → bits_set n ≡ t ∷ bits_set (bit_and n (n - 1))
  cleared h =
      let m : ℕ = bit_and n (n - 1) in
      let rest : ℕ → List ℕ = λ n. filter (is_set n) (range_with_len (t + 1) (63 - t)) in
      let test : (b : ℕ) → b ≡ 0 → eqb b 1 ≡ false = λ b e. ap (λ b. eqb b 1) e in
      bits_cut n t h
      ∙ (ap₂ (λ k b. k ++ cond {A = List ℕ} b (t ∷ rest n) (rest n)) (filter_none (is_set n) 0 t (λ i least most. test (bit_at n i) (below i (omega arith)))) (ap (λ b. eqb b 1) set)
      ∙ ap (λ l. t ∷ l) (sym (bits_cut m t h
      ∙ (ap₂ (λ k b. k ++ cond {A = List ℕ} b (t ∷ rest m) (rest m)) (filter_none (is_set m) 0 t (λ i least most. test (bit_at m i) (and_below i (omega arith)))) (test (bit_at m t) and_here)
      ∙ filter_same (is_set m) (is_set n) (t + 1) (63 - t) (λ i least. ap (λ b. eqb b 1) (and_above i least))))))

-- the lowest bit that is set, and the others
pub lowest : (n : ℕ) → 0 < n → n < 2 ^ 64 → bits_set n ≡ trailing_zeros w64 n ∷ bits_set (bit_and n (n - 1))
lowest n some bound =
    let found = bit_at-trailing_zeros w64 n some bound in
    cleared n (trailing_zeros w64 n) found.1 found.2 found.0
