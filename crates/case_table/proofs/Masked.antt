-- A set of faces, and what is left of it where the ambiguous faces are kept.
use Rattle.std.proofs.Common.{◌≡◌, ◌∙◌, ℕ, zero, suc, ◌+◌, ◌*◌, ◌^◌, ◌<◌, ◌≤◌, ◌==◌, Bool, true, false, ◌&&◌, bit_and, cond, min, sym, ap, arith}
use Rattle.std.specs.Int.{bit_at}
use Rattle.std.proofs.lemmas.Nat.{and_le_r}
use Rattle.std.proofs.lemmas.Nat.Bits.{bit_at-lt, bit_at_and, same_from_bits_below}

-- six digits as a number, the first one lowest
abbrev pub of_digits : (ℕ → ℕ) → ℕ
of_digits d = d 0 + 2 * (d 1 + 2 * (d 2 + 2 * (d 3 + 2 * (d 4 + 2 * d 5))))

module _ (d : ℕ → ℕ) (low : (i : ℕ) → d i ≤ 1) where
  digits_low : of_digits d < 2 ^ 6
  digits_low = let a = low 0 in let b = low 1 in let c = low 2 in let e = low 3 in let f = low 4 in let g = low 5 in omega arith

  digit_at : (i : ℕ) → i < 6 → bit_at (of_digits d) i ≡ d i
  digit_at zero h = let a = low 0 in let b = low 1 in let c = low 2 in let e = low 3 in let f = low 4 in let g = low 5 in omega arith
  digit_at (suc zero) h = let a = low 0 in let b = low 1 in let c = low 2 in let e = low 3 in let f = low 4 in let g = low 5 in omega arith
  digit_at (suc (suc zero)) h = let a = low 0 in let b = low 1 in let c = low 2 in let e = low 3 in let f = low 4 in let g = low 5 in omega arith
  digit_at (suc (suc (suc zero))) h = let a = low 0 in let b = low 1 in let c = low 2 in let e = low 3 in let f = low 4 in let g = low 5 in omega arith
  digit_at (suc (suc (suc (suc zero)))) h = let a = low 0 in let b = low 1 in let c = low 2 in let e = low 3 in let f = low 4 in let g = low 5 in omega arith
  digit_at (suc (suc (suc (suc (suc zero))))) h = let a = low 0 in let b = low 1 in let c = low 2 in let e = low 3 in let f = low 4 in let g = low 5 in omega arith
  digit_at (suc (suc (suc (suc (suc (suc i)))))) h = absurd (omega arith)

-- a digit, kept where a bit is set
kept_digit : (n : ℕ) (set joined : Bool) → n < 2 → (n == 1) ≡ set → min n (cond joined 1 0) ≡ cond (set && joined) 1 0
kept_digit zero set true h e = ap (λ b. cond (b && true) 1 0) e
kept_digit zero set false h e = ap (λ b. cond (b && false) 1 0) e
kept_digit (suc zero) set true h e = ap (λ b. cond (b && true) 1 0) e
kept_digit (suc zero) set false h e = ap (λ b. cond (b && false) 1 0) e
kept_digit (suc (suc n)) set joined h e = absurd (omega arith)

digit_low : (b : Bool) → cond b 1 0 ≤ 1
digit_low true = omega arith
digit_low false = omega arith

-- the digits of those in a set
pub kept : (faces : ℕ) (set joined : ℕ → Bool) → ((i : ℕ) → i < 6 → (bit_at faces i == 1) ≡ set i)
    → bit_and faces (of_digits (λ i. cond (joined i) 1 0)) ≡ of_digits (λ i. cond (set i && joined i) 1 0)
kept faces set joined h =
    let all : ℕ = of_digits (λ i. cond (joined i) 1 0) in
    let inside : bit_and faces all ≤ all = and_le_r faces all in
    let low : all < 2 ^ 6 = digits_low (λ i. cond (joined i) 1 0) (λ i. digit_low (joined i)) in
    same_from_bits_below 6 _ _ (omega arith) (digits_low (λ i. cond (set i && joined i) 1 0) (λ i. digit_low (set i && joined i))) (λ i l.
    bit_at_and faces all i
    ∙ ap (min (bit_at faces i)) (digit_at (λ k. cond (joined k) 1 0) (λ k. digit_low (joined k)) i l)
    ∙ kept_digit (bit_at faces i) (set i) (joined i) (bit_at-lt faces i) (h i l)
    ∙ sym (digit_at (λ k. cond (set k && joined k) 1 0) (λ k. digit_low (set k && joined k)) i l))
