-- The widths that samples are kept in.
use Rattle.std.specs.Prelude.{Bool, true, int_le, ◌&&◌, ℤ, pos, negsuc, Option, Some, None, if◌then◌else◌}
use Rattle.iso_base.specs.Volume.{IsOfKind, greatest_of, least_of}
use Rattle.iso_base.specs.declared.kind.SampleKind.{SampleKind}
use Rattle.iso_base.specs.declared.kind.SampleKind.TheVariants as kinds
use Rattle.packed_samples.specs.declared.width.Width.{Width}
use Rattle.packed_samples.specs.declared.width.Width.TheVariants.{U8, I16, U16, I32, I64}

-- the samples that there is room for in a width
abbrev pub HasRoom : Width → ℤ → Type 0
HasRoom U8 v = IsOfKind kinds.U8 v
HasRoom I16 v = IsOfKind kinds.I16 v
HasRoom U16 v = IsOfKind kinds.U16 v
HasRoom I32 v = IsOfKind kinds.I32 v
HasRoom I64 v = Unit {0}

-- the same as a test
abbrev pub holds : Width → ℤ → Bool
holds U8 v = int_le (pos 0) v && int_le v (pos 255)
holds I16 v = int_le (negsuc 32767) v && int_le v (pos 32767)
holds U16 v = int_le (pos 0) v && int_le v (pos 65535)
holds I32 v = int_le (negsuc 2147483647) v && int_le v (pos 2147483647)
holds I64 v = true

-- there is room for a pad, if there is one
abbrev pub holds_pad : Width → Option ℤ → Bool
holds_pad w None = true
holds_pad w (Some pad) = holds w pad

-- there is room for all samples of a volume of this kind and pad
abbrev pub holds_all : Width → SampleKind → Option ℤ → Bool
holds_all w kind pad = holds w (least_of kind) && (holds w (greatest_of kind) && holds_pad w pad)

-- the narrowest width with such room
abbrev pub width_of : SampleKind → Option ℤ → Width
width_of kind pad =
    if holds_all U8 kind pad then U8
    else if holds_all I16 kind pad then I16
    else if holds_all U16 kind pad then U16
    else if holds_all I32 kind pad then I32
    else I64
