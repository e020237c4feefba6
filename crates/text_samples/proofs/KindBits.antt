-- The bits of a sample.
use Rattle.std.proofs.Common.{◌≡◌, ◌^◌, ◌<◌, ltb, ℤ, pos, negsuc, refl, arith, inl, inr}
use Rattle.std.proofs.lemmas.Bool.{cases_Bool, ltb-true, ltb-false}
use Rattle.std.proofs.lemmas.Int.{ints}
use Rattle.iso_base.specs.Volume.{IsOfKind, width_of}
use Rattle.iso_base.specs.declared.kind.SampleKind.{SampleKind}
use Rattle.iso_base.specs.declared.kind.SampleKind.TheVariants.{I8, U8, I16, U16, I32, U32}
use Rattle.iso_base.specs.SampleBytes.{as_kind, bits_of}

-- they fit in its bytes
pub bits_fit : (kind : SampleKind) (v : ℤ) → IsOfKind kind v → bits_of kind v < 256 ^ width_of kind
bits_fit I8 v h = omega (arith, ints, h.low, h.high)
bits_fit U8 (pos n) h = omega (arith, ints, h.high)
bits_fit U8 (negsuc n) h = absurd (omega (arith, ints, h.low))
bits_fit I16 v h = omega (arith, ints, h.low, h.high)
bits_fit U16 (pos n) h = omega (arith, ints, h.high)
bits_fit U16 (negsuc n) h = absurd (omega (arith, ints, h.low))
bits_fit I32 v h = omega (arith, ints, h.low, h.high)
bits_fit U32 (pos n) h = omega (arith, ints, h.high)
bits_fit U32 (negsuc n) h = absurd (omega (arith, ints, h.low))

-- say which sample it is
pub kind_bits : (kind : SampleKind) (v : ℤ) → IsOfKind kind v → as_kind kind (bits_of kind v) ≡ v
kind_bits I8 v h =
    elim (cases_Bool (ltb (bits_of I8 v) (2 ^ 7))) [
      | inl t ↦ (let k = ltb-true (bits_of I8 v) (2 ^ 7) t in rw t (omega (arith, ints, h.low, h.high)))
      | inr f ↦ (let k = ltb-false (bits_of I8 v) (2 ^ 7) f in rw f (omega (arith, ints, h.low, h.high)))
    ]
kind_bits U8 (pos n) h = refl
kind_bits U8 (negsuc n) h = absurd (omega (arith, ints, h.low))
kind_bits I16 v h =
    elim (cases_Bool (ltb (bits_of I16 v) (2 ^ 15))) [
      | inl t ↦ (let k = ltb-true (bits_of I16 v) (2 ^ 15) t in rw t (omega (arith, ints, h.low, h.high)))
      | inr f ↦ (let k = ltb-false (bits_of I16 v) (2 ^ 15) f in rw f (omega (arith, ints, h.low, h.high)))
    ]
kind_bits U16 (pos n) h = refl
kind_bits U16 (negsuc n) h = absurd (omega (arith, ints, h.low))
kind_bits I32 v h =
    elim (cases_Bool (ltb (bits_of I32 v) (2 ^ 31))) [
      | inl t ↦ (let k = ltb-true (bits_of I32 v) (2 ^ 31) t in rw t (omega (arith, ints, h.low, h.high)))
      | inr f ↦ (let k = ltb-false (bits_of I32 v) (2 ^ 31) f in rw f (omega (arith, ints, h.low, h.high)))
    ]
kind_bits U32 (pos n) h = refl
kind_bits U32 (negsuc n) h = absurd (omega (arith, ints, h.low))
