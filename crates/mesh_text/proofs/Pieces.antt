-- Texts that are moved at once.
use Rattle.std.proofs.Common.{◌≡◌, ℕ, ◌+◌, ◌-◌, ◌/◌, ◌<◌, ◌≤◌, ◌^◌, List, ◌++◌, length, take, drop, decimal, refl, sym, ap, ◌∙◌, append_assoc, arith, inl, inr, eq-zero-or-pos, length-append}
use Rattle.std.proofs.lemmas.List.{take-take, take-append-drop, take_at, length-take-le}
use Rattle.number_digits.proofs.Counts.{one_digit, two_digits, three_digits_of, four_digits_of, four_more, eight_more}

-- a whole array was written, and its first bytes count
pub piece_written : (old new bytes : List ℕ) (at count all : ℕ) → at ≤ length old → count ≤ all → length bytes ≡ all → take (at + all) new ≡ take at old ++ bytes
    → take (at + count) new ≡ take at old ++ take count bytes
piece_written old new bytes at count all le few size w =
    let whole : take at old ++ bytes ≡ (take at old ++ take count bytes) ++ drop count bytes =
    ap (λ (l : List ℕ). take at old ++ l) (sym (take-append-drop count bytes)) ∙ sym (append_assoc (take at old) (take count bytes) (drop count bytes)) in
    let long : length (take at old ++ take count bytes) ≡ at + count =
    length-append (take at old) (take count bytes) ∙ omega (arith, length-take-le at old le, length-take-le count bytes (omega (arith, few, size))) in
    sym (take-take (at + count) (at + all) new (omega (arith, few))) ∙ (ap (take (at + count)) (w ∙ whole) ∙ take_at (take at old ++ take count bytes) (drop count bytes) (at + count) long)

-- what was written is as long as its text
pub written_length : (old new text : List ℕ) (at end : ℕ) → at ≤ length old → end ≤ length new → take end new ≡ take at old ++ text → end ≡ at + length text
written_length old new text at end le room w =
    let long : length (take end new) ≡ length (take at old) + length text = ap length w ∙ length-append (take at old) text in
    omega (arith, long, length-take-le at old le, length-take-le end new room)

-- how many digits a number has at most
four_digits_most : (n : ℕ) → n < 10000 → length (decimal n) ≤ 4
four_digits_most n low =
    elim (eq-zero-or-pos (10 - n)) [
      | inr g ↦ omega (arith, one_digit n (omega arith))
      | inl z ↦ elim (eq-zero-or-pos (100 - n)) [
        | inr g ↦ omega (arith, two_digits n (omega arith) (omega arith))
        | inl y ↦ elim (eq-zero-or-pos (1000 - n)) [
          | inr g ↦ omega (arith, three_digits_of n (omega arith) (omega arith))
          | inl x ↦ omega (arith, four_digits_of n (omega arith) low)
        ]
      ]
    ]

pub ten_digits_most : (n : ℕ) → n < 10 ^ 10 → length (decimal n) ≤ 10
ten_digits_most n low =
    elim (eq-zero-or-pos (10000 - n)) [
      | inr g ↦ omega (arith, four_digits_most n (omega arith))
      | inl z ↦ elim (eq-zero-or-pos (100000000 - n)) [
        | inr g ↦ omega (arith, four_digits_most (n / 10000) (omega arith), four_more n _ (omega arith) (omega arith) refl)
        | inl y ↦ elim (eq-zero-or-pos (10 - n / 100000000)) [
          | inr g ↦ omega (arith, one_digit (n / 100000000) (omega arith), eight_more n _ (omega arith) (omega arith) refl)
          | inl x ↦ omega (arith, two_digits (n / 100000000) (omega arith) (omega arith), eight_more n _ (omega arith) (omega arith) refl)
        ]
      ]
    ]
