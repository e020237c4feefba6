-- The numbers that a byte can be, out of a table.
use Rattle.std.proofs.Common.{◌≡◌, ℕ, ◌+◌, ◌<◌, ◌≤◌, List, [], ◌∷◌, ◌++◌, length, take, get_or, sym, ap, subst, ◌∙◌, arith, pos}
use Rattle.std.proofs.lemmas.List.{take-take, take-append-le, length-take-le}
use Rattle.std.proofs.lemmas.Fmt.{length-decimal-le}
use Rattle.std.proofs.Math.Seq.{take-append-add}
use Rattle.nrrd_text.specs.ByteNumbers.{IsEntry}
use Rattle.nrrd_text.specs.Writing.{next_number}

-- the number of a byte and a space are four bytes at most
four_at_most : (b : ℕ) → b < 256 → length (next_number (pos b)) ≤ 4
four_at_most b low = omega (arith, length-decimal-le 3 b (omega arith) (omega arith) (omega arith))

-- the first of a list, four at most, out of its first four
firsts : (xs rest : List ℕ) (n : ℕ) → n ≤ 4 → 4 ≤ length xs → take n (get_or xs 0 0 ∷ get_or xs 1 0 ∷ get_or xs 2 0 ∷ get_or xs 3 0 ∷ rest) ≡ take n xs
firsts [] rest n few long = absurd (omega (arith, long))
firsts (a ∷ []) rest n few long = absurd (omega (arith, long))
firsts (a ∷ b ∷ []) rest n few long = absurd (omega (arith, long))
firsts (a ∷ b ∷ c ∷ []) rest n few long = absurd (omega (arith, long))
firsts (a ∷ b ∷ c ∷ d ∷ xs) rest n few long = take-append-le n (a ∷ b ∷ c ∷ d ∷ []) rest few ∙ sym (take-append-le n (a ∷ b ∷ c ∷ d ∷ []) xs few)

-- a number that was put at the front of a room makes an entry
pub entry_made : (room : List ℕ) (b end : ℕ) → b < 256 → length room ≡ 24 → end ≤ 24 → take end room ≡ next_number (pos b)
    → IsEntry (get_or room 0 0 ∷ get_or room 1 0 ∷ get_or room 2 0 ∷ get_or room 3 0 ∷ end ∷ 0 ∷ 0 ∷ 0 ∷ []) b
entry_made room b end low size fits written =
    let few : end ≤ 4 = omega (arith, sym (length-take-le end room (omega arith)) ∙ ap length written, four_at_most b low) in
    record { size = omega arith; few = few; text = firsts room (end ∷ 0 ∷ 0 ∷ 0 ∷ []) end few (omega arith) ∙ written }

-- the first four bytes of an entry were put, and so many count
pub number_written : (old new entry : List ℕ) (b at n : ℕ) → at + 4 ≤ length old → IsEntry entry b → n ≡ get_or entry 4 0
    → take (at + 4) new ≡ take at old ++ (get_or entry 0 0 ∷ get_or entry 1 0 ∷ get_or entry 2 0 ∷ get_or entry 3 0 ∷ []) → take (at + n) new ≡ take at old ++ next_number (pos b)
number_written old new entry b at n room is e put =
    let few : n ≤ 4 = subst (λ k. k ≤ 4) (sym e) is.few in
    let text : take n entry ≡ next_number (pos b) = subst (λ k. take k entry ≡ next_number (pos b)) (sym e) is.text in
    sym (take-take (at + n) (at + 4) new (omega arith))
    ∙ (ap (take (at + n)) put
    ∙ (split (take at old) _ (length-take-le at old (omega arith)) ∙ ap (λ l. take at old ++ l) (firsts entry [] n few (omega (arith, is.size)) ∙ text)))
  where
    split : (a c : List ℕ) → length a ≡ at → take (at + n) (a ++ c) ≡ a ++ take n c
    split a c e = subst (λ k. take (k + n) (a ++ c) ≡ a ++ take n c) e (take-append-add a c n)
