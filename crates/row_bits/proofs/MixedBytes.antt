-- A bit for each of 64 bytes.
use Rattle.std.proofs.Common.{◌≡◌, ℕ, zero, suc, ◌+◌, ◌%◌, ◌^◌, ◌<◌, ◌≤◌, ◌∙◌, true, false, ◌||◌, List, cond, eqb, ltb, length, map, get_or, replicate, sym, ap, ap₂, arith, w8, inl, inr}
use Rattle.std.specs.Int.{bit_at}
use Rattle.std.specs.Simd.Lanes.{chunk, mask_l, top, zip2}
use Rattle.std.proofs.lemmas.List.{get_or-replicate}
use Rattle.std.proofs.lemmas.Simd.{bit_mask_l, get_or-chunk, get_or-zip2, length-chunk, length-zip2, mask_l-mod, tops_compared}
use Rattle.std.proofs.lemmas.Bool.{cases_lt, lt-ltb, ne_eqb}

-- whether a byte is neither 0 nor 255
abbrev pub mixed : ℕ → ℕ
mixed byte = cond (eqb byte 0 || eqb byte 255) 0 1

pub mixed_some : (byte : ℕ) → mixed byte ≡ 1 → 0 < byte
mixed_some zero h = absurd (omega (arith, h))
mixed_some (suc byte) h = omega arith

mixed_by_one : (byte : ℕ) → byte < 256 → cond {A = ℕ} (ltb 1 ((byte + 1) % 256)) 1 0 ≡ mixed byte
mixed_by_one byte small = elim (cases_lt 0 byte) [
  | inr none ↦ (let e : byte ≡ 0 = omega arith in ap (λ byte. cond {A = ℕ} (ltb 1 ((byte + 1) % 256)) 1 0) e ∙ sym (ap mixed e))
  | inl some ↦ elim (cases_lt byte 255) [
    | inr full ↦ (let e : byte ≡ 255 = omega arith in ap (λ byte. cond {A = ℕ} (ltb 1 ((byte + 1) % 256)) 1 0) e ∙ sym (ap mixed e))
    | inl less ↦ (
        let high : ltb 1 ((byte + 1) % 256) ≡ true = lt-ltb 1 ((byte + 1) % 256) (omega arith) in
        ap (λ b. cond {A = ℕ} b 1 0) high ∙ sym (ap₂ (λ a b. cond {A = ℕ} (a || b) 0 1) (ne_eqb byte 0 (λ e. omega (arith, e, some))) (ne_eqb byte 255 (λ e. omega (arith, e, less)))))
  ]
]

-- the bits of 64 bytes
pub bits_of_many : (bytes : List ℕ) (from k : ℕ) → from + 64 ≤ length bytes → k < 64 → get_or bytes (from + k) 0 < 256
    → bit_at (mask_l (map (top 7) (zip2 (λ a b. cond (ltb a b) 255 0) (replicate 64 1) (zip2 (λ a b. (a + b) % 256) (chunk from 64 bytes) (replicate 64 1)))) % 2 ^ 64) k
    ≡ mixed (get_or bytes (from + k) 0)
bits_of_many bytes from k within low small =
    let ones : List ℕ = replicate 64 1 in
    let part : List ℕ = chunk from 64 bytes in
    let next : List ℕ = zip2 (λ a b. (a + b) % 256) part ones in
    let part_len : length part ≡ 64 = length-chunk from 64 bytes within in
    let next_len : length next ≡ 64 = length-zip2 (λ a b. (a + b) % 256) part ones part_len ∙ part_len in
    let len : length (zip2 ltb ones next) ≡ 64 = length-zip2 ltb ones next (sym next_len) in
    let one : get_or ones k 0 ≡ 1 = get_or-replicate 64 k 1 0 low in
    let here : get_or next k 0 ≡ (get_or bytes (from + k) 0 + 1) % 256
    = get_or-zip2 (λ a b. (a + b) % 256) part ones k 0 0 0 (omega (arith, part_len)) low
    ∙ ap₂ (λ a b. (a + b) % 256) (get_or-chunk from 64 bytes k 0 low) one in
    ap (λ ms. bit_at (mask_l ms % 2 ^ 64) k) (tops_compared w8 ltb ones next)
    ∙ (ap (λ n. bit_at n k) (mask_l-mod (zip2 ltb ones next) 64 (omega (arith, len)))
    ∙ (bit_mask_l (zip2 ltb ones next) k
    ∙ (ap (λ b. cond {A = ℕ} b 1 0) (get_or-zip2 ltb ones next k 0 0 false low (omega (arith, next_len)) ∙ ap₂ ltb one here)
    ∙ mixed_by_one (get_or bytes (from + k) 0) small)))
