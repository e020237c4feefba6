-- Two digits at the front of a text.
use Rattle.std.proofs.Common.{◌≡◌, ℕ, ◌+◌, ◌-◌, ◌*◌, ◌≤◌, false, List, [], ◌∷◌, length, get_or, take, drop, Some, Ok, refl, sym, ap, ◌∙◌, arith}
use Rattle.std.proofs.lemmas.Bool.Decides.{nat_tests}
use Rattle.std.proofs.Math.Seq.{take-length}
use Rattle.text_samples.specs.declared.hex.Wanted.{Wanted}
use Rattle.text_samples.specs.Text.{is_separator}
use Rattle.text_samples.specs.Hex.{hex_value}
use Rattle.text_samples.specs.HexScan.{digit_read, byte_read}

-- a digit is no separator
digit_solid : (b v : ℕ) → hex_value b ≡ Some v → is_separator b ≡ false
unfolding hex_value
digit_solid b v e = grind (arith, nat_tests)

digit_front : (wanted : Wanted) (done b v : ℕ) (rest : List ℕ) → hex_value b ≡ Some v → digit_read wanted done (b ∷ rest) ≡ Ok (v, rest)
unfolding digit_read
digit_front wanted done b v rest e = rw (digit_solid b v e, e) refl

pub byte_front : (wanted : Wanted) (done : ℕ) (rest : List ℕ) (high low : ℕ) → 2 ≤ length rest → hex_value (get_or rest 0 0) ≡ Some high → hex_value (get_or rest 1 0) ≡ Some low
    → byte_read wanted done rest ≡ Ok (16 * high + low, take (length rest - 2) (drop 2 rest))
unfolding byte_read
byte_front wanted done [] high low le h l = absurd (omega arith)
byte_front wanted done (a ∷ []) high low le h l = absurd (omega arith)
byte_front wanted done (a ∷ b ∷ rest) high low le h l =
    let n : length (a ∷ b ∷ rest) - 2 ≡ length rest = omega arith in
    let first : digit_read wanted done (a ∷ b ∷ rest) ≡ Ok (high, b ∷ rest) = digit_front wanted done a high (b ∷ rest) h in
    let second : digit_read wanted (done + 1) (b ∷ rest) ≡ Ok (low, rest) = digit_front wanted (done + 1) b low rest l in
    rw (first, second) (ap (λ (r : List ℕ). Ok (16 * high + low, r)) (sym (ap (λ m. take m rest) n ∙ take-length rest)))
