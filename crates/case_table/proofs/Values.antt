-- From the two bytes of the code to the case of eight values.
use Rattle.std.proofs.Common.{◌≡◌, ◌∙◌, ℕ, zero, suc, ◌/◌, ◌%◌, ◌≤◌, ◌<◌, ◌^◌, Bool, true, false, ◌&&◌, ℤ, List, length, refl, sym, ap, ap₂, subst, arith, inl, inr}
use Rattle.std.proofs.lemmas.Bool.{cases_lt, eqb-true}
use Rattle.std.proofs.lemmas.List.{ext_get_or}
use Rattle.iso_defs.specs.Face.{holds_at, is_ambiguous}
use Rattle.iso_defs.specs.Cell.{face_is_joined, face_signs, joined_of, signs_of}
use Rattle.iso_defs.specs.Bricks.{bits_of, number_of_bits}
use Rattle.corner_signs.proofs.Bits.{bits_of_six, number_small}
use Rattle.case_table.specs.Cases.{ambiguous_flags, are_ambiguous}
use Rattle.case_table.proofs.Joined.{face_flag}
use Rattle.case_table.proofs.Flags.{all_below_in, allowed, allowed_is, below_all_from, first_bits, is_allowed, values_allowed}

-- a number below 64 has no bit 6 or 7
no_high_bit : (n f : ℕ) → n < 64 → 6 ≤ f → f < 8 → holds_at (bits_of 8 n) f ≡ true → ⊥
no_high_bit n zero small low high e = omega arith
no_high_bit n (suc zero) small low high e = omega arith
no_high_bit n (suc (suc zero)) small low high e = omega arith
no_high_bit n (suc (suc (suc zero))) small low high e = omega arith
no_high_bit n (suc (suc (suc (suc zero)))) small low high e = omega arith
no_high_bit n (suc (suc (suc (suc (suc zero))))) small low high e = omega arith
no_high_bit n (suc (suc (suc (suc (suc (suc zero)))))) small low high e = let bit : n / 64 % 2 ≡ 1 = eqb-true (n / 64 % 2) 1 e in omega arith
no_high_bit n (suc (suc (suc (suc (suc (suc (suc zero))))))) small low high e = let bit : n / 128 % 2 ≡ 1 = eqb-true (n / 128 % 2) 1 e in omega arith
no_high_bit n (suc (suc (suc (suc (suc (suc (suc (suc f)))))))) small low high e = omega arith

-- flags of six faces, as a byte
pub eight_allowed : (signs flags : List Bool) (n : ℕ) → length flags ≡ 6 → are_ambiguous signs flags ≡ true → n ≡ number_of_bits flags → are_ambiguous signs (bits_of 8 n) ≡ true
eight_allowed signs flags n six ambiguous is =
    let small : n < 64 = let few : number_of_bits flags < 2 ^ 6 = number_small 6 flags (omega arith) in omega arith in
    let back : bits_of 6 n ≡ flags = ap (bits_of 6) is ∙ bits_of_six flags six in
    below_all_from (allowed signs (bits_of 8 n)) 8 (λ f l. is_allowed signs (bits_of 8 n) f (λ e. elim (cases_lt f 6) [
      | inl low ↦
          let set : holds_at flags f ≡ true = sym (ap (λ bits. holds_at bits f) back) ∙ first_bits n f low ∙ e in
          allowed_is signs flags f (all_below_in (allowed signs flags) (length flags) f ambiguous (omega arith)) set
      | inr high ↦ absurd (no_high_bit n f small high l e)
    ]))

module _ (values : List ℤ) (signs joined : ℕ) (corners : bits_of 8 signs ≡ signs_of values) (faces : joined ≡ number_of_bits (joined_of values)) where
  -- what `row_of` asks
  pub bytes_allowed : are_ambiguous (bits_of 8 signs) (bits_of 8 joined) ≡ true
  bytes_allowed = subst (λ bits. are_ambiguous bits (bits_of 8 joined) ≡ true) (sym corners)
      (eight_allowed (signs_of values) (joined_of values) joined refl (values_allowed values) faces)

  -- and what it answers
  pub bytes_case : ◌≡◌ {A = List Bool × List Bool} (bits_of 8 signs, bits_of 6 joined) (signs_of values, joined_of values)
  bytes_case = ap₂ (λ a b. (a, b)) corners (ap (bits_of 6) faces ∙ bits_of_six (joined_of values) refl)

no_flag : (f : ℕ) → holds_at (bits_of 6 0) f ≡ false
no_flag zero = refl
no_flag (suc zero) = refl
no_flag (suc (suc zero)) = refl
no_flag (suc (suc (suc zero))) = refl
no_flag (suc (suc (suc (suc zero)))) = refl
no_flag (suc (suc (suc (suc (suc zero))))) = refl
no_flag (suc (suc (suc (suc (suc (suc f)))))) = refl

-- where no face is ambiguous, none is joined
pub none_joined : (values : List ℤ) → ambiguous_flags (signs_of values) ≡ bits_of 6 0 → joined_of values ≡ bits_of 6 0
none_joined values none =
    ext_get_or false (joined_of values) (bits_of 6 0) refl (λ f h.
    let plain : is_ambiguous (face_signs (signs_of values) f) ≡ false
    = sym (face_flag (λ f. is_ambiguous (face_signs (signs_of values) f)) f h) ∙ ap (λ flags. holds_at flags f) none ∙ no_flag f in
    face_flag (face_is_joined values) f h ∙ and_false _ _ plain ∙ sym (no_flag f))
  where
    and_false : (a b : Bool) → a ≡ false → (a && b) ≡ false
    and_false a b e = ap (λ x. x && b) e
