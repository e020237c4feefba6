-- Samples of each kind, and the range that they lie in.
use Rattle.std.proofs.Common.{◌≡◌, ℕ, ◌+◌, ◌*◌, ◌^◌, ◌<◌, Bool, true, false, ltb, List, length, get_or, drop, ap, ◌∙◌, arith, All, ℤ}
use Rattle.std.proofs.lemmas.Int.{ints}
use Rattle.std.proofs.lemmas.Bool.{ltb-true, ltb-false}
use Rattle.std.proofs.lemmas.List.{get_or-drop}
use Rattle.std.proofs.lemmas.List.FromFn.{get_or-map-range_with_len, length-map-range_with_len}
use Rattle.byteorder.specs.Numbers.{big_from-lt, little_from-lt}
use Rattle.iso_base.specs.Volume.{width_of, IsOfKind}
use Rattle.iso_base.specs.declared.kind.SampleKind.{SampleKind}
use Rattle.iso_base.specs.declared.kind.SampleKind.TheVariants.{I8, U8, I16, U16, I32, U32}
use Rattle.iso_base.specs.SampleBytes.{number_in, as_kind, sample_of, samples_in}
use Rattle.text_lines.proofs.Places.{decide}

abbrev pub IsBytes : List ℕ → Type 0
IsBytes bytes = (i : ℕ) → get_or bytes i 0 < 256

number_fits : (big_endian : Bool) (width : ℕ) (bytes : List ℕ) → IsBytes bytes → number_in big_endian width bytes < 256 ^ width
number_fits true width bytes fits = big_from-lt 0 width bytes fits
number_fits false width bytes fits = little_from-lt 0 width bytes fits

dropped : (n : ℕ) (bytes : List ℕ) → IsBytes bytes → IsBytes (drop n bytes)
dropped n bytes fits i = omega (arith, fits (n + i), get_or-drop n bytes i 0)

in_kind : (kind : SampleKind) (n : ℕ) → n < 256 ^ width_of kind → IsOfKind kind (as_kind kind n)
in_kind U8 n lt = record { low = omega (arith, ints); high = omega (arith, ints) }
in_kind U16 n lt = record { low = omega (arith, ints); high = omega (arith, ints) }
in_kind U32 n lt = record { low = omega (arith, ints); high = omega (arith, ints) }
in_kind I8 n lt = decide (ltb n (2 ^ 7)) (λ t. let h = ltb-true n (2 ^ 7) t in rw t (record { low = omega (arith, ints); high = omega (arith, ints) })) (λ f. let h = ltb-false n (2 ^ 7) f in rw f (record { low = omega (arith, ints); high = omega (arith, ints) }))
in_kind I16 n lt = decide (ltb n (2 ^ 15)) (λ t. let h = ltb-true n (2 ^ 15) t in rw t (record { low = omega (arith, ints); high = omega (arith, ints) })) (λ f. let h = ltb-false n (2 ^ 15) f in rw f (record { low = omega (arith, ints); high = omega (arith, ints) }))
in_kind I32 n lt = decide (ltb n (2 ^ 31)) (λ t. let h = ltb-true n (2 ^ 31) t in rw t (record { low = omega (arith, ints); high = omega (arith, ints) })) (λ f. let h = ltb-false n (2 ^ 31) f in rw f (record { low = omega (arith, ints); high = omega (arith, ints) }))

pub each_in_kind : (kind : SampleKind) (big_endian : Bool) (bytes : List ℕ) (count : ℕ) (samples : List ℤ) → IsBytes bytes → samples ≡ samples_in kind big_endian bytes count → All (IsOfKind kind) samples
each_in_kind kind big_endian bytes count samples fits e k d lt =
    let f = λ (i : ℕ). sample_of kind big_endian bytes i in
    let n : length samples ≡ count = ap length e ∙ length-map-range_with_len f 0 count in
    let at : get_or samples k d ≡ f k = ap (λ (l : List ℤ). get_or l k d) e ∙ get_or-map-range_with_len f 0 count k k d (omega arith) (omega arith) in
    rw at (in_kind kind (number_in big_endian (width_of kind) (drop (width_of kind * k) bytes)) (number_fits big_endian (width_of kind) (drop (width_of kind * k) bytes) (dropped (width_of kind * k) bytes fits)))

pub length_samples : (kind : SampleKind) (big_endian : Bool) (bytes : List ℕ) (count : ℕ) → length (samples_in kind big_endian bytes count) ≡ count
length_samples kind big_endian bytes count = length-map-range_with_len (λ (i : ℕ). sample_of kind big_endian bytes i) 0 count
