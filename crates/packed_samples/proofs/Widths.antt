-- What there is room for in the width that a kind and a pad choose.
use Rattle.std.proofs.Common.{◌≡◌, ℤ, pos, negsuc, Bool, true, false, refl, arith, int_le}
use Rattle.std.specs.Prelude.{Option, Some, None, IfSome, ◌≤ℤ◌, ◌&&◌, if◌then◌else◌}
use Rattle.std.proofs.lemmas.Bool.{and_parts}
use Rattle.std.proofs.lemmas.Int.{ints}
use Rattle.iso_base.specs.Volume.{IsOfKind, greatest_of, least_of}
use Rattle.iso_base.specs.declared.kind.SampleKind.{SampleKind}
use Rattle.packed_samples.specs.declared.width.Width.{Width}
use Rattle.packed_samples.specs.declared.width.Width.TheVariants.{U8, I16, U16, I32, I64}
use Rattle.packed_samples.specs.Widths.{HasRoom, holds, holds_all, holds_pad, width_of}

-- a number between two others, by the tests
between : (least most v : ℤ) → (int_le least v && int_le v most) ≡ true → (least ≤ℤ v) × (v ≤ℤ most)
between least most v e =
    let low = (and_parts (int_le least v) (int_le v most) e).0 in
    let high = (and_parts (int_le least v) (int_le v most) e).1 in
    (omega (arith, ints), omega (arith, ints))

-- the test says that there is room
by_test : (w : Width) (v : ℤ) → holds w v ≡ true → HasRoom w v
by_test U8 v e = record { low = (between (pos 0) (pos 255) v e).0; high = (between (pos 0) (pos 255) v e).1 }
by_test I16 v e = record { low = (between (negsuc 32767) (pos 32767) v e).0; high = (between (negsuc 32767) (pos 32767) v e).1 }
by_test U16 v e = record { low = (between (pos 0) (pos 65535) v e).0; high = (between (pos 0) (pos 65535) v e).1 }
by_test I32 v e = record { low = (between (negsuc 2147483647) (pos 2147483647) v e).0; high = (between (negsuc 2147483647) (pos 2147483647) v e).1 }
by_test I64 v e = tt

-- where there is room for two numbers, there is for those between them
within : (w : Width) (least most v : ℤ) → HasRoom w least → HasRoom w most → least ≤ℤ v → v ≤ℤ most → HasRoom w v
within U8 least most v a b low high = record { low = (let h = a.low in omega (arith, ints)); high = (let h = b.high in omega (arith, ints)) }
within I16 least most v a b low high = record { low = (let h = a.low in omega (arith, ints)); high = (let h = b.high in omega (arith, ints)) }
within U16 least most v a b low high = record { low = (let h = a.low in omega (arith, ints)); high = (let h = b.high in omega (arith, ints)) }
within I32 least most v a b low high = record { low = (let h = a.low in omega (arith, ints)); high = (let h = b.high in omega (arith, ints)) }
within I64 least most v a b low high = tt

-- one of two widths
one_of : (P : Width → Type 0) (b : Bool) (w other : Width) → (b ≡ true → P w) → P other → P (if b then w else other)
one_of P true w other first second = first refl
one_of P false w other first second = second

-- the width that is chosen has room for all
all_held : (kind : SampleKind) (pad : Option ℤ) → holds_all (width_of kind pad) kind pad ≡ true
all_held kind pad =
    one_of Has (holds_all U8 kind pad) U8 _ (λ e. e)
    (one_of Has (holds_all I16 kind pad) I16 _ (λ e. e)
    (one_of Has (holds_all U16 kind pad) U16 _ (λ e. e)
    (one_of Has (holds_all I32 kind pad) I32 I64 (λ e. e) (any_pad pad))))
  where
    Has : Width → Type 0
    Has w = holds_all w kind pad ≡ true

    any_pad : (o : Option ℤ) → holds_pad I64 o ≡ true
    any_pad None = refl
    any_pad (Some _) = refl

-- it has room for each sample of the kind
pub kind_fits : (kind : SampleKind) (pad : Option ℤ) (v : ℤ) → IsOfKind kind v → HasRoom (width_of kind pad) v
kind_fits kind pad v is =
    let w = width_of kind pad in
    let ends = and_parts (holds w (least_of kind)) (holds w (greatest_of kind) && holds_pad w pad) (all_held kind pad) in
    let rest = and_parts (holds w (greatest_of kind)) (holds_pad w pad) ends.1 in
    within w (least_of kind) (greatest_of kind) v (by_test w _ ends.0) (by_test w _ rest.0) is.low is.high

-- and for the pad
pub pad_fits : (kind : SampleKind) (pad : Option ℤ) → IfSome pad (HasRoom (width_of kind pad))
pad_fits kind pad =
    let w = width_of kind pad in
    let ends = and_parts (holds w (least_of kind)) (holds w (greatest_of kind) && holds_pad w pad) (all_held kind pad) in
    of_pad w pad (and_parts (holds w (greatest_of kind)) (holds_pad w pad) ends.1).1
  where
    of_pad : (w : Width) (o : Option ℤ) → holds_pad w o ≡ true → IfSome o (HasRoom w)
    of_pad w None e = tt
    of_pad w (Some v) e = by_test w v e
