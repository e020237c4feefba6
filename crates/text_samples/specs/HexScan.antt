-- Hex digits as the code reads them, one after the other. No public definition rests on it.
use Rattle.std.specs.Prelude.{ℕ, zero, suc, ◌+◌, ◌*◌, ◌/◌, Bool, ℤ, List, [], ◌∷◌, ok_or, Result, Ok, Err}
use Rattle.iso_base.specs.Volume.{width_of}
use Rattle.iso_base.specs.declared.kind.SampleKind.{SampleKind}
use Rattle.text_samples.specs.declared.fault.SampleFault.{SampleFault}
use Rattle.text_samples.specs.declared.fault.SampleFault.TheVariants.{Bad, Short}
use Rattle.text_samples.specs.declared.hex.Wanted.{Wanted}
use Rattle.text_lines.specs.Lines.{◌>>=◌}
use Rattle.text_samples.specs.Hex.{Mark, marks_in, hex_value}
use Rattle.iso_base.specs.SampleBytes.{as_kind, number_in}

-- the digit of the first mark, behind so many digits, and the bytes after it
abbrev pub digit_of : Wanted → ℕ → List Mark → Result (ℕ × List ℕ) SampleFault
digit_of wanted done [] = Err (Short wanted.needed done)
digit_of wanted done (m ∷ marks) = ok_or (hex_value m.byte) (Bad (done / wanted.each)) >>= (λ v. Ok (v, m.after))

-- the next digit of a text
unfoldable pub digit_read : Wanted → ℕ → List ℕ → Result (ℕ × List ℕ) SampleFault
digit_read wanted done rest = digit_of wanted done (marks_in rest)

-- the byte of the next two
unfoldable pub byte_read : Wanted → ℕ → List ℕ → Result (ℕ × List ℕ) SampleFault
byte_read wanted done rest = do
  high ← digit_read wanted done rest
  low ← digit_read wanted (done + 1) high.1
  Ok (16 * high.0 + low.0, low.1)

-- so many bytes
abbrev pub bytes_read : ℕ → Wanted → ℕ → List ℕ → Result (List ℕ × List ℕ) SampleFault
bytes_read zero wanted done rest = Ok ([], rest)
bytes_read (suc n) wanted done rest = do
  first ← byte_read wanted done rest
  more ← bytes_read n wanted (done + 2) first.1
  Ok (first.0 ∷ more.0, more.1)

-- the number in so many bytes
unfoldable pub number_read : Bool → ℕ → Wanted → ℕ → List ℕ → Result (ℕ × List ℕ) SampleFault
number_read big_endian width wanted done rest = do
  bytes ← bytes_read width wanted done rest
  Ok (number_in big_endian width bytes.0, bytes.1)

-- the next sample
unfoldable pub sample_read : SampleKind → Bool → Wanted → ℕ → List ℕ → Result (ℤ × List ℕ) SampleFault
sample_read kind big_endian wanted done rest = do
  number ← number_read big_endian (width_of kind) wanted done rest
  Ok (as_kind kind number.0, number.1)

-- a value with the bytes after it, wherever they lie in memory
abbrev pub map_ok : {A B : Type 0} → (A → B) → Result A SampleFault → Result B SampleFault
map_ok f (Ok x) = Ok (f x)
map_ok f (Err e) = Err e
