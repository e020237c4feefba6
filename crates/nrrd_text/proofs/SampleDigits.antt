-- The digits of a sample's bytes, one byte behind another.
use Rattle.std.proofs.Common.{◌≡◌, ◌≢◌, ℕ, ◌/◌, ◌%◌, List, ◌++◌, refl, ap, ◌∙◌, append_assoc, arith, ℤ}
use Rattle.iso_base.specs.Volume.{width_of}
use Rattle.iso_base.specs.declared.kind.SampleKind.{SampleKind}
use Rattle.iso_base.specs.declared.kind.SampleKind.TheVariants.{I8, U8, I16, U16, I32, U32}
use Rattle.iso_base.specs.SampleBytes.{bits_of}
use Rattle.nrrd_text.specs.Writing.{byte_digits, sample_digits}

digits_of_two : (kind : SampleKind) (v : ℤ) (n : ℕ) → width_of kind ≡ 2 → n ≡ bits_of kind v → byte_digits (n % 256) ++ byte_digits (n / 256 % 256) ≡ sample_digits kind v
unfolding sample_digits
digits_of_two I8 v n e h = absurd (omega (arith, e))
digits_of_two U8 v n e h = absurd (omega (arith, e))
digits_of_two I16 v n e h = rw h refl
digits_of_two U16 v n e h = rw h refl
digits_of_two I32 v n e h = absurd (omega (arith, e))
digits_of_two U32 v n e h = absurd (omega (arith, e))

digits_of_four : (kind : SampleKind) (v : ℤ) (n : ℕ) → width_of kind ≢ 1 → width_of kind ≢ 2 → n ≡ bits_of kind v
    → byte_digits (n % 256) ++ (byte_digits (n / 256 % 256) ++ (byte_digits (n / 65536 % 256) ++ byte_digits (n / 16777216 % 256))) ≡ sample_digits kind v
unfolding sample_digits
digits_of_four I8 v n a b h = absurd (a refl)
digits_of_four U8 v n a b h = absurd (a refl)
digits_of_four I16 v n a b h = absurd (b refl)
digits_of_four U16 v n a b h = absurd (b refl)
digits_of_four I32 v n a b h = rw h refl
digits_of_four U32 v n a b h = rw h refl

-- both bytes were written
pub two_written : (kind : SampleKind) (v : ℤ) (n : ℕ) (s t u : List ℕ) → width_of kind ≡ 2 → n ≡ bits_of kind v
    → t ≡ s ++ byte_digits (n % 256) → u ≡ t ++ byte_digits (n / 256 % 256) → u ≡ s ++ sample_digits kind v
two_written kind v n s t u e h a b =
    b ∙ ap (λ (l : List ℕ). l ++ byte_digits (n / 256 % 256)) a ∙ append_assoc s (byte_digits (n % 256)) (byte_digits (n / 256 % 256))
    ∙ ap (λ (l : List ℕ). s ++ l) (digits_of_two kind v n e h)

-- all four were
pub four_written : (kind : SampleKind) (v : ℤ) (n : ℕ) (s t u w x : List ℕ) → width_of kind ≢ 1 → width_of kind ≢ 2 → n ≡ bits_of kind v
    → t ≡ s ++ byte_digits (n % 256) → u ≡ t ++ byte_digits (n / 256 % 256) → w ≡ u ++ byte_digits (n / 65536 % 256) → x ≡ w ++ byte_digits (n / 16777216 % 256)
    → x ≡ s ++ sample_digits kind v
four_written kind v n s t u w x one two h a b c d =
    let flat : x ≡ (((s ++ byte_digits (n % 256)) ++ byte_digits (n / 256 % 256)) ++ byte_digits (n / 65536 % 256)) ++ byte_digits (n / 16777216 % 256) = cc in
    let grouped : x ≡ s ++ (byte_digits (n % 256) ++ (byte_digits (n / 256 % 256) ++ (byte_digits (n / 65536 % 256) ++ byte_digits (n / 16777216 % 256)))) = flat ∙ simp append_assoc in
    grouped ∙ ap (λ (l : List ℕ). s ++ l) (digits_of_four kind v n one two h)
