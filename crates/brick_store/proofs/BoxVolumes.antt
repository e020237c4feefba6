-- What a volume keeps when samples of a box are replaced.
use Rattle.std.proofs.Common.{◌≡◌, ℕ, ◌<◌, true, false, Bool, cond, sym, ◌∙◌, ap, subst, inl, inr, ℤ, pos}
use Rattle.std.specs.Prelude.{Option, Some, None, IfSome, MatchOption, not}
use Rattle.std.proofs.lemmas.Bool.{cases_Bool}
use Rattle.std.proofs.lemmas.List.Elements.{All-get_or}
use Rattle.iso_defs.specs.Grid.{point_count, is_outer}
use Rattle.iso_base.specs.Volume.{IsOfKind, Volume, IsVolume, HoldsPad, sample}
use Rattle.voxel_list.specs.Areas.{Area, is_in_area}
use Rattle.brick_store.specs.declared.boxes.Values.{Values}
use Rattle.brick_store.specs.declared.boxes.Values.TheVariants.{One, Each}
use Rattle.brick_store.specs.Boxes.{AreAsMany, AreOfKind, IsBox, IsInnerArea, area_place, boxed, value_in}
use Rattle.brick_store.proofs.BoxPoints.{area_place_in}
use Rattle.brick_store.proofs.Replacing.{length-replaced, sample-replaced}

-- each value of the box is of the kind
value_of_kind : (v : Volume) (a : Area) (values : Values) (p : ℕ) → IsBox v.grid a → p < point_count v.grid → is_in_area v.grid a p ≡ true → AreAsMany a values
    → AreOfKind v.kind values → IsOfKind v.kind (value_in v.grid a values p)
value_of_kind v a (One value) p is low t many kind = kind
value_of_kind v a (Each values) p is low t many kind =
    All-get_or (IsOfKind v.kind) values.now (area_place v.grid a p) (pos 0) (subst (λ n. area_place v.grid a p < n) (sym many) (area_place_in v.grid a is p low t)) kind

module _ (v : Volume) (a : Area) (values : Values) (is : IsVolume v) (box : IsBox v.grid a) where
  now_at : (q : ℕ) → q < point_count v.grid → sample (boxed v.grid a values v.samples) q ≡ cond (is_in_area v.grid a q) (value_in v.grid a values q) (sample v.samples q)
  now_at q low = sample-replaced (is_in_area v.grid a) (value_in v.grid a values) v.samples q (subst (λ n. q < n) (sym is.count) low)

  stays : (q : ℕ) → q < point_count v.grid → is_in_area v.grid a q ≡ false → sample (boxed v.grid a values v.samples) q ≡ sample v.samples q
  stays q low f = now_at q low ∙ ap (λ b. cond b (value_in v.grid a values q) (sample v.samples q)) f

  pub box_keeps : IsInnerArea v a → AreAsMany a values → AreOfKind v.kind values → IsVolume (record v { samples = boxed v.grid a values v.samples })
  box_keeps inner many kind = record {
    grid = is.grid;
    inner = is.inner;
    count = length-replaced (is_in_area v.grid a) (value_in v.grid a values) v.samples ∙ is.count;
    pad = is.pad;
    holds = both v.pad is.holds inner;
    each = λ q low inside. elim (cases_Bool (is_in_area v.grid a q)) [
      | inl t ↦ subst (IsOfKind v.kind) (sym (now_at q low ∙ ap (λ b. cond b (value_in v.grid a values q) (sample v.samples q)) t))
          (value_of_kind v a values q box low t many kind)
      | inr f ↦ subst (IsOfKind v.kind) (sym (stays q low f)) (is.each q low inside)
    ];
  }
    where
      wrong : (b : Bool) → not b ≡ true → b ≡ true → ⊥
      wrong true e f = let g : false ≡ true = e in cc
      wrong false e f = let g : false ≡ true = f in cc

      both : (o : Option ℤ) → IfSome o (HoldsPad v)
          → ((p : ℕ) → p < point_count v.grid → is_in_area v.grid a p ≡ true → MatchOption o (Unit {0}) (λ _. not (is_outer v.grid p) ≡ true))
          → IfSome o (HoldsPad (record v { samples = boxed v.grid a values v.samples }))
      both None h inner = tt
      both (Some pad) h inner = λ q low outer. elim (cases_Bool (is_in_area v.grid a q)) [
        | inl t ↦ absurd (wrong (is_outer v.grid q) (inner q low t) outer)
        | inr f ↦ stays q low f ∙ h q low outer
      ]

-- the same for a volume that is known by what it is equal to
pub boxed_at : (v w : Volume) (a : Area) (values : Values) → v ≡ w → IsVolume v → IsBox w.grid a → IsInnerArea w a → AreAsMany a values → AreOfKind w.kind values
    → IsVolume (record v { samples = boxed v.grid a values v.samples })
boxed_at v w a values e is box inner many kind =
    let all = subst (λ (w : Volume). IsBox w.grid a × (IsInnerArea w a × AreOfKind w.kind values)) (sym e) (box, (inner, kind)) in
    box_keeps v a values is all.0 all.1.0 many all.1.1
