-- What a store keeps when samples are replaced.
use Rattle.std.proofs.Common.{◌≡◌, List, sym, subst, ℤ}
use Rattle.std.specs.Prelude.{Option}
use Rattle.iso_defs.specs.Grid.{Grid}
use Rattle.iso_base.specs.declared.kind.SampleKind.{SampleKind}
use Rattle.iso_base.specs.Volume.{IsVolume}
use Rattle.packed_samples.specs.Widths.{width_of}
use Rattle.brick_store.specs.declared.copy_list.Kept.{Kept}
use Rattle.brick_store.specs.Copies.{AreCopies, samples_of}
use Rattle.brick_store.specs.Kept.{IsStored, copies_in, kept_width}

-- copies in place of others, in a list of the same width
pub stored_again : (g : Grid) (kind : SampleKind) (pad : Option ℤ) (new : Kept) (samples : List ℤ)
    → IsVolume (record { grid = g; kind = kind; pad = pad; samples = samples }) → kept_width new ≡ width_of kind pad
    → AreCopies g (copies_in new) → samples_of g (copies_in new) ≡ samples → IsStored g kind pad new
stored_again g kind pad new samples is width are same = record {
  bricks = record {
    volume = subst (λ (l : List ℤ). IsVolume (record { grid = g; kind = kind; pad = pad; samples = l })) (sym same) is;
    copies_are = are;
  };
  width = width;
}
