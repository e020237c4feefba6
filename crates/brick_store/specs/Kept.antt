-- The list that a store keeps its copies of samples in.
use Rattle.std.specs.Prelude.{◌≡◌, ℤ, List, map, pos, Option}
use Rattle.iso_defs.specs.Grid.{Grid}
use Rattle.iso_base.specs.declared.kind.SampleKind.{SampleKind}
use Rattle.packed_samples.specs.declared.width.Width.{Width}
use Rattle.packed_samples.specs.declared.width.Width.TheVariants as widths
use Rattle.packed_samples.specs.Widths.{width_of}
use Rattle.brick_store.specs.declared.copy_list.Kept.{Kept}
use Rattle.brick_store.specs.declared.copy_list.Kept.TheVariants.{U8, I16, U16, I32, I64}
use Rattle.brick_store.specs.Copies.{AreBricks}

-- the copies
abbrev pub copies_in : Kept → List ℤ
copies_in (U8 copies) = map pos copies.items
copies_in (I16 copies) = copies.items
copies_in (U16 copies) = map pos copies.items
copies_in (I32 copies) = copies.items
copies_in (I64 copies) = copies.items

-- the width that they are kept in
abbrev pub kept_width : Kept → Width
kept_width (U8 _) = widths.U8
kept_width (I16 _) = widths.I16
kept_width (U16 _) = widths.U16
kept_width (I32 _) = widths.I32
kept_width (I64 _) = widths.I64

-- what a store is: bricks, in the narrowest width that their volume has room in
pub record IsStored (g : Grid) (kind : SampleKind) (pad : Option ℤ) (kept : Kept) : Type 0 where
  pub bricks : AreBricks g kind pad (copies_in kept)
  pub width : kept_width kept ≡ width_of kind pad
