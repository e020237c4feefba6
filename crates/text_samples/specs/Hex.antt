-- Samples as the hex digits of their bytes.
use Rattle.std.specs.Prelude.{ℕ, ◌+◌, ◌-◌, ◌*◌, ◌/◌, Bool, ◌&&◌, nat_le, nat_lt, ℤ, List, [], ◌∷◌, map, take, length, get_or, Option, Some, None, ok_or, Result, Ok, Err, if◌then◌else◌}
use Rattle.std.specs.List.{enumerate_from}
use Rattle.iso_defs.specs.Bytes.{digit_zero, digit_nine, upper_a, upper_f, lower_a, lower_f}
use Rattle.iso_base.specs.Volume.{width_of}
use Rattle.iso_base.specs.declared.kind.SampleKind.{SampleKind}
use Rattle.text_samples.specs.declared.fault.SampleFault.{SampleFault}
use Rattle.text_samples.specs.declared.fault.SampleFault.TheVariants.{Bad, Short}
use Rattle.text_lines.specs.Lines.{◌>>=◌, all_or_first}
use Rattle.iso_base.specs.SampleBytes.{samples_in}
use Rattle.text_samples.specs.Text.{is_separator}

-- a byte that is no separator, and the bytes after it
pub record Mark : Type 0 where
  pub byte : ℕ
  pub after : List ℕ

-- the bytes that are no separators
abbrev pub marks_in : List ℕ → List Mark
marks_in [] = []
marks_in (b ∷ bs) = if is_separator b then marks_in bs else record { byte = b; after = bs } ∷ marks_in bs

-- the value of a hex digit of either case
unfoldable pub hex_value : ℕ → Option ℕ
hex_value b =
    if nat_le digit_zero b && nat_le b digit_nine then Some (b - digit_zero) else
    if nat_le upper_a b && nat_le b upper_f then Some (b - upper_a + 10) else
    if nat_le lower_a b && nat_le b lower_f then Some (b - lower_a + 10) else None

-- the digit at a place, or that the sample of that place has none there; a sample has so many digits
abbrev pub digit_at : ℕ → ℕ × Mark → Result ℕ SampleFault
digit_at each m = ok_or (hex_value m.1.byte) (Bad (m.0 / each))

-- two digits make a byte, the high one first
abbrev pub paired : List ℕ → List ℕ
paired [] = []
paired (high ∷ []) = []
paired (high ∷ low ∷ digits) = (16 * high + low) ∷ paired digits

-- how many digits so many samples have
abbrev pub digits_needed : SampleKind → ℕ → ℕ
digits_needed kind count = 2 * width_of kind * count

-- the samples whose bytes the first digits of a text make, so many, and the number of bytes after the last of them;
-- or the sample of the first byte that is no digit, or else how many digits there are where there are too few
unfoldable pub hex_samples : SampleKind → Bool → ℕ → List ℕ → Result (List ℤ × ℕ) SampleFault
hex_samples kind big_endian count bytes = do
  digits ← all_or_first (map (digit_at (2 * width_of kind))
      (enumerate_from 0 (take (digits_needed kind count) (marks_in bytes))))
  if nat_lt (length (marks_in bytes)) (digits_needed kind count)
      then Err (Short (digits_needed kind count) (length (marks_in bytes)))
      else Ok (
        samples_in kind big_endian (paired digits) count,
        get_or (length bytes ∷ map (λ (m : Mark). length m.after) (marks_in bytes)) (digits_needed kind count) 0,
      )
