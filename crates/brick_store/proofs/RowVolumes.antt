-- What a volume keeps when samples of a row are replaced.
use Rattle.std.proofs.Common.{◌≡◌, ℕ, ◌+◌, ◌-◌, ◌<◌, ◌≤◌, true, false, Bool, List, All, length, sym, ◌∙◌, subst, inl, inr, arith, ℤ, pos}
use Rattle.std.specs.Prelude.{Option, Some, None, IfSome, MatchOption, not}
use Rattle.std.proofs.lemmas.Bool.{cases_lt}
use Rattle.std.proofs.lemmas.List.Elements.{All-get_or}
use Rattle.iso_defs.specs.Grid.{point_count, is_outer}
use Rattle.iso_base.specs.Volume.{IsOfKind, Volume, IsVolume, HoldsPad, IsInner}
use Rattle.packed_samples.specs.Runs.{row_set}
use Rattle.brick_store.proofs.RowWriting.{length-row_set, row_set_before, row_set_within, row_set_behind}

module _ (v : Volume) (i : ℕ) (values : List ℤ) (is : IsVolume v) (low : i + length values ≤ point_count v.grid) where
  fits : i + length values ≤ length v.samples
  fits = omega (arith, low, is.count)

  pub row_keeps : ((k : ℕ) → k < length values → IsInner v (i + k)) → All (IsOfKind v.kind) values → IsVolume (record v { samples = row_set i values v.samples })
  row_keeps inner kind = record {
    grid = is.grid;
    inner = is.inner;
    count = length-row_set i values v.samples fits ∙ is.count;
    pad = is.pad;
    holds = both v.pad is.holds inner;
    each = λ q h inside. elim (cases_lt q i) [
      | inl l ↦ subst (IsOfKind v.kind) (sym (row_set_before i values v.samples fits q l)) (is.each q h inside)
      | inr m ↦ elim (cases_lt q (i + length values)) [
        | inl l ↦ subst (IsOfKind v.kind) (sym (row_set_within i values v.samples fits q m l)) (All-get_or (IsOfKind v.kind) values (q - i) (pos 0) (omega arith) kind)
        | inr b ↦ subst (IsOfKind v.kind) (sym (row_set_behind i values v.samples fits q b)) (is.each q h inside)
      ]
    ];
  }
    where
      wrong : (b : Bool) → not b ≡ true → b ≡ true → ⊥
      wrong true e f = let g : false ≡ true = e in cc
      wrong false e f = let g : false ≡ true = f in cc

      both : (o : Option ℤ) → IfSome o (HoldsPad v) → ((k : ℕ) → k < length values → MatchOption o (Unit {0}) (λ _. not (is_outer v.grid (i + k)) ≡ true))
          → IfSome o (HoldsPad (record v { samples = row_set i values v.samples }))
      both None h inner = tt
      both (Some pad) h inner = λ q in_grid outer. elim (cases_lt q i) [
        | inl l ↦ row_set_before i values v.samples fits q l ∙ h q in_grid outer
        | inr m ↦ elim (cases_lt q (i + length values)) [
          | inl l ↦ (
              let same : i + (q - i) ≡ q = omega arith in
              absurd (wrong (is_outer v.grid q) (subst (λ n. not (is_outer v.grid n) ≡ true) same (inner (q - i) (omega arith))) outer))
          | inr b ↦ row_set_behind i values v.samples fits q b ∙ h q in_grid outer
        ]
      ]

-- the same for a volume that is known by what it is equal to
pub row_set_at : (v w : Volume) (i : ℕ) (values : List ℤ) → v ≡ w → IsVolume v → i + length values ≤ point_count v.grid
    → ((k : ℕ) → k < length values → IsInner w (i + k)) → All (IsOfKind w.kind) values → IsVolume (record v { samples = row_set i values v.samples })
row_set_at v w i values e is low inner kind =
    let both = subst (λ (w : Volume). ((k : ℕ) → k < length values → IsInner w (i + k)) × All (IsOfKind w.kind) values) (sym e) (inner, kind) in
    row_keeps v i values is low both.0 both.1
