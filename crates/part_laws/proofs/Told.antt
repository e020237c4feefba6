-- The edges of the whole and of each component, by faces and border.
use Rattle.std.proofs.Common.{◌≡◌, ℕ, ◌+◌, ◌*◌, Bool, true, List, [], ◌∷◌, length, refl, sym, ◌∙◌, ap, inl, inr, eqb}
use Rattle.std.specs.List.{filter, AllByRecursion}
use Rattle.std.proofs.lemmas.Bool.{eq-eqb, or_left, or_right}
use Rattle.iso_defs.specs.Cell.{Triangle}
use Rattle.iso_defs.specs.Manifold.{uses}
use Rattle.iso_base.specs.Triangles.{IsBelow}
use Rattle.triangle_laws.proofs.Lists.{In}
use Rattle.mesh_report.specs.Report.{component, edges, has_one_side, part_of, total_of}
use Rattle.mesh_report.proofs.NumberLaws.{AgreesOn}
use Rattle.mesh_report.proofs.ComponentLaws.{component_corner}
use Rattle.part_laws.specs.Triangles.{RunOnce}
use Rattle.part_laws.proofs.Edges.{at_in, border_with, edges_told, edges_with}
use Rattle.part_laws.proofs.Counted.{filter_all}

module _ (n : ℕ) (ts : List Triangle) (h : RunOnce n ts) where
  all_agree : (T : ℕ → Bool) → ((t : Triangle) → In t ts → AgreesOn T t) → AllByRecursion (AgreesOn T) ts
  all_agree T = go ts
    where
      go : (us : List Triangle) → ((t : Triangle) → In t us → AgreesOn T t) → AllByRecursion (AgreesOn T) us
      go [] k = tt
      go (t ∷ us) k = (k t (inl refl), go us (λ u i. k u (inr i)))

  pub total_told : 2 * (total_of n ts).edges ≡ 3 * (total_of n ts).faces + (total_of n ts).border
  unfolding total_of
  total_told =
      let T : ℕ → Bool = λ v. true in
      let e : edges_with n ts T ≡ edges n ts = filter_all (λ (e : ℕ × ℕ). true) (edges n ts) (λ e i. refl) in
      let f : filter (λ (t : Triangle). true) ts ≡ ts = filter_all (λ (t : Triangle). true) ts (λ t i. refl) in
      ap (λ es. 2 * length es) (sym e)
      ∙ (edges_told n ts h.corners h.inside h.once T (all_agree T (λ t i. (refl, refl)))
      ∙ (ap (λ us. 3 * length us + border_with n ts T) f ∙ ap (λ es. 3 * length ts + length (filter (has_one_side ts) es)) e))

  pub part_told : (k : ℕ) → 2 * (part_of n ts k).edges ≡ 3 * (part_of n ts k).faces + (part_of n ts k).border
  unfolding part_of
  part_told k =
      let T : ℕ → Bool = λ v. eqb (component n ts v) k in
      edges_told n ts h.corners h.inside h.once T (all_agree T (λ t i.
      let b : IsBelow n t = at_in (IsBelow n) ts h.inside t i in
      let first : uses t.0 t ≡ true = or_left (eqb t.0 t.0) _ (eq-eqb t.0 t.0 refl) in (
        ap (λ z. eqb z k) (component_corner n ts t t.1 t.0 i b.1 b.0 (or_right (eqb t.0 t.1) _ (or_left (eqb t.1 t.1) (eqb t.2 t.1) (eq-eqb t.1 t.1 refl))) first),
        ap (λ z. eqb z k) (component_corner n ts t t.2 t.0 i b.2 b.0 (or_right (eqb t.0 t.2) _ (or_right (eqb t.1 t.2) (eqb t.2 t.2) (eq-eqb t.2 t.2 refl))) first),
      )))
