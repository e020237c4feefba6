-- Room for the samples of a volume in the width that its kind and its pad choose.
use Rattle.std.proofs.Common.{◌≡◌, ◌∙◌, ℕ, ◌<◌, true, All, List, sym, subst, inl, inr, ap, ℤ, pos}
use Rattle.std.specs.Prelude.{Option, Some, None, IfSome, MatchOption, not}
use Rattle.std.proofs.lemmas.Bool.{cases_Bool}
use Rattle.std.proofs.lemmas.List.Elements.{All-from_get_or}
use Rattle.iso_defs.specs.Grid.{is_outer, point_count}
use Rattle.iso_base.specs.Volume.{IsOfKind, Volume, IsVolume, IsInner, HoldsPad, sample}
use Rattle.iso_base.specs.declared.kind.SampleKind.{SampleKind}
use Rattle.packed_samples.specs.Widths.{HasRoom, width_of}
use Rattle.packed_samples.specs.declared.width.Width.{Width}
use Rattle.brick_store.specs.Boxes.{AreFitting, AreOfKind}
use Rattle.brick_store.specs.declared.boxes.Values.{Values}
use Rattle.brick_store.specs.declared.boxes.Values.TheVariants.{One, Each}
use Rattle.packed_samples.proofs.Widths.{kind_fits, pad_fits}

-- there is room for a sample of a point: the pad's in its layer, and otherwise one of the kind
pub room_at : (v : Volume) (p : ℕ) (value : ℤ) → IfSome v.pad (λ pad. is_outer v.grid p ≡ true → value ≡ pad)
    → (IsInner v p → IsOfKind v.kind value) → HasRoom (width_of v.kind v.pad) value
room_at v p value pad kind = by_pad v.pad (pad_fits v.kind v.pad) pad (λ inner. kind_fits v.kind v.pad value (kind inner))
  where
    Room : ℤ → Type 0
    Room = HasRoom (width_of v.kind v.pad)

    by_pad : (o : Option ℤ) → IfSome o Room → IfSome o (λ pad. is_outer v.grid p ≡ true → value ≡ pad)
        → (MatchOption o (Unit {0}) (λ _. not (is_outer v.grid p) ≡ true) → Room value) → Room value
    by_pad None room pad inner = inner tt
    by_pad (Some pad_value) room pad inner = elim (cases_Bool (is_outer v.grid p)) [
      | inl t ↦ subst Room (sym (pad t)) room
      | inr f ↦ inner (ap not f)
    ]

-- there is room for all of some samples of the kind
pub room_for_kind : (kind : SampleKind) (pad : Option ℤ) (values : List ℤ) → All (IsOfKind kind) values → All (HasRoom (width_of kind pad)) values
room_for_kind kind pad values each = λ k d low. kind_fits kind pad _ (each k d low)

-- and for what the points of a box become
pub room_for_values : (kind : SampleKind) (pad : Option ℤ) (values : Values) → AreOfKind kind values → AreFitting (HasRoom (width_of kind pad)) values
room_for_values kind pad (One value) is = kind_fits kind pad value is
room_for_values kind pad (Each values) each = room_for_kind kind pad values.now each

-- there is room for all samples of a volume
pub room_for_volume : (v : Volume) → IsVolume v → All (HasRoom (width_of v.kind v.pad)) v.samples
room_for_volume v is =
    All-from_get_or (HasRoom (width_of v.kind v.pad)) v.samples (pos 0) (λ p low.
    let here : p < point_count v.grid = subst (λ n. p < n) is.count low in
    room_at v p (sample v.samples p) (pad_there v.pad is.holds p here) (is.each p here))
  where
    pad_there : (o : Option ℤ) → IfSome o (HoldsPad v) → (p : ℕ) → p < point_count v.grid → IfSome o (λ pad. is_outer v.grid p ≡ true → sample v.samples p ≡ pad)
    pad_there None h p low = tt
    pad_there (Some pad) h p low = h p low

-- also where the width was chosen by a call, and an arm says which it is
pub room_in : (v : Volume) (chosen arm : Width) → IsVolume v → chosen ≡ width_of v.kind v.pad → chosen ≡ arm → All (HasRoom arm) v.samples
room_in v chosen arm is width same = subst (λ w. All (HasRoom w) v.samples) (sym width ∙ same) (room_for_volume v is)
