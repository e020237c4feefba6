-- 64 bytes that are all one byte.
use Rattle.std.proofs.Common.{◌≡◌, ℕ, ◌+◌, ◌-◌, ◌*◌, ◌%◌, ◌^◌, ◌<◌, ◌≤◌, ◌∙◌, Bool, true, false, not, List, cond, eqb, length, map, get_or, replicate, refl, sym, ap, arith, w8, inl, inr}
use Rattle.std.specs.Simd.Lanes.{chunk, mask_l, top, zip2}
use Rattle.std.proofs.lemmas.Simd.{bitmask_splat, length-chunk, none_from_empty_mask}
use Rattle.std.proofs.lemmas.Bool.{cases_lt, eqb-true}

-- a truth value from its opposite
pub not_twice : (b : Bool) → not (not b) ≡ true → b ≡ true
not_twice true h = refl
not_twice false h = absurd (omega (arith, ap (λ b. cond {A = ℕ} b 1 0) h))

is_same : (b : Bool) → not b ≡ false → b ≡ true
is_same true h = refl
is_same false h = absurd (omega (arith, ap (λ b. cond {A = ℕ} b 1 0) h))

-- 64 bytes that are all one byte
pub each_of_many : (bytes : List ℕ) (from byte k : ℕ) → from + 64 ≤ length bytes → k < 64
    → mask_l (map (top 7) (zip2 (λ a b. cond (not (eqb a b)) 255 0) (chunk from 64 bytes) (replicate 64 byte))) % 2 ^ 64 ≡ 0 → get_or bytes (from + k) 0 ≡ byte
each_of_many bytes from byte k within low none =
    let part : List ℕ = chunk from 64 bytes in
    let others : mask_l (map (λ x. not (eqb x byte)) part) ≡ 0
    = sym (bitmask_splat w8 (λ a b. not (eqb a b)) part 64 byte (length-chunk from 64 bytes within) (omega arith)) ∙ none in
    let here : not (eqb (get_or bytes (from + k) 0) byte) ≡ false
    = none_from_empty_mask (λ x. not (eqb x byte)) bytes from 64 0 within others (from + k) (omega arith) (omega arith) in
    eqb-true (get_or bytes (from + k) 0) byte (is_same (eqb (get_or bytes (from + k) 0) byte) here)

-- the first bytes and 64 more that are all one byte
pub one_run_more : (bytes : List ℕ) (run byte : ℕ) → ((k : ℕ) → k < 64 * run → get_or bytes k 0 ≡ byte)
    → ((k : ℕ) → k < 64 → get_or bytes (64 * run + k) 0 ≡ byte) → (k : ℕ) → k < 64 * (run + 1) → get_or bytes k 0 ≡ byte
one_run_more bytes run byte before more k low = elim (cases_lt k (64 * run)) [
  | inl earlier ↦ before k earlier
  | inr late ↦ (
      let j : ℕ = k - 64 * run in
      let place : 64 * run + j ≡ k = omega arith in
      ap (λ x. get_or bytes x 0) (sym place) ∙ more j (omega arith))
]
