-- Components are begun.
use Rattle.std.proofs.Common.{◌≡◌, ◌≢◌, ℕ, ◌+◌, ◌<◌, ℤ, true, false, List, [], ◌∷◌, ◌++◌, length, get_or, map, set, take, sym, ◌∙◌, ap, subst, inl, inr, arith, eqb}
use Rattle.std.proofs.lemmas.Bool.{cases_Bool, cases_eq, cases_lt, eq-eqb, eqb-true}
use Rattle.std.proofs.lemmas.List.{get_or-map, get_or-set_other, get_or-set_same, get_or_append_left, get_or_push, length-map, length-set, length_push, take_more}
use Rattle.component_labels.specs.Fronts.{none}
use Rattle.mesh_report.proofs.PlaceLaws.{in_place, place_in}
use Rattle.part_laws.specs.ByLabels.{firsts}
use Rattle.triangle_laws.proofs.Lists.{In, any_in, in_any}
use Rattle.component_walk.specs.Begun.{AreBegun, IsEmpty}
use Rattle.component_walk.specs.declared.components.Component.{Component}
use Rattle.component_walk.proofs.FirstLaws.{first_of}
use Rattle.component_walk.proofs.PassedLaws.{firsts_last, told, with_last}
use Rattle.component_walk.proofs.WalkLaws.{firsts_inside}

module _ {T : Type 0} (value : T → ℕ → ℤ) (fits : ℕ → T → Type 0) (name number : ℕ → ℕ) where
  -- none is begun
  pub begun_none : (places : List ℕ) (cs : List (Component T)) → cs ≡ [] → ((a : ℕ) → a < length places → get_or places a 0 ≡ none) → AreBegun value fits name number [] places cs
  begun_none places cs e h = record {
    count = ap (λ (l : List (Component T)). length l) e;
    least = λ i d l. absurd (omega (arith, l, ap (λ (l : List (Component T)). length l) e));
    empty = λ i d l. absurd (omega (arith, l, ap (λ (l : List (Component T)). length l) e));
    place = λ i l. absurd (omega (arith, l, ap (λ (l : List (Component T)). length l) e));
    named = λ a l some. absurd (some (h a l));
  }

  module _ (es places : List ℕ) (cs : List (Component T)) (h : AreBegun value fits name number es places cs) (e : ℕ) (inside : name e < length places) where
    -- the first edge of a component
    abbrev first : ℕ → ℕ
    first i = get_or (firsts name es) i 0

    abbrev places' : List ℕ
    places' = set places (name e) (length cs)

    place_of : (d : ℕ) → In d es → length cs < none → get_or places (name d) 0 < length cs
    place_of d i few =
        let f : (f : ℕ) × In f (firsts name es) × (name f ≡ name d) = first_of name es d i in
        let k : (k : ℕ) × (k < length (firsts name es)) × (get_or (firsts name es) k 0 ≡ f.0) = place_in f.0 (firsts name es) f.1 in
        let p : get_or places (name (first k.0)) 0 ≡ k.0 = h.place k.0 (omega (arith, k.1, h.count)) in
        let q : name (first k.0) ≡ name d = ap name k.2 ∙ f.2 in
        let z : get_or places (name d) 0 ≡ k.0 = ap (λ a. get_or places a 0) (sym q) ∙ p in
        omega (arith, z, k.1, h.count)

    -- an edge more of a component that is begun
    pub begun_before : get_or places (name e) 0 ≢ none → AreBegun value fits name number (es ++ e ∷ []) places cs
    begun_before some = record {
      count = h.count ∙ ap length (sym same);
      least = λ i d l. h.least i d l ∙ ap (λ fs. number (get_or fs i 0)) (sym same);
      empty = h.empty;
      place = λ i l. subst (λ fs. get_or places (name (get_or fs i 0)) 0 ≡ i) (sym same) (h.place i l);
      named = λ a l n. (let k = h.named a l n in (k.0, ap (λ fs. name (get_or fs (get_or places a 0) 0)) same ∙ k.1));
    }
      where
        same : firsts name (es ++ e ∷ []) ≡ firsts name es
        same =
            let k = h.named (name e) inside some in
            let i : In (first (get_or places (name e) 0)) (firsts name es) = in_place (firsts name es) (get_or places (name e) 0) 0 (omega (arith, k.0, h.count)) in
            let t : told name es e ≡ true = any_in (λ d. eqb (name d) (name e)) es (first (get_or places (name e) 0)) (firsts_inside name name es (first (get_or places (name e) 0)) i) (eq-eqb (name (first (get_or places (name e) 0))) (name e) k.1) in
            firsts_last name es e ∙ ap (λ b. with_last name b es e) t

    -- the first edge of a component
    pub begun_more : (c : Component T) → get_or places (name e) 0 ≡ none → length cs < none → c.least ≡ number e → IsEmpty value fits c
        → AreBegun value fits name number (es ++ e ∷ []) (set places (name e) (length cs)) (cs ++ c ∷ [])
    begun_more c free few least empty = record {
      count = length_push cs c ∙ (ap (λ n. n + 1) h.count ∙ (sym (length_push (firsts name es) e) ∙ ap length (sym more)));
      least = λ i d l.
          elim (cases_lt i (length cs)) [
            | inl k ↦ ap (λ (x : Component T). x.least) (get_or_append_left cs (c ∷ []) d i k) ∙ (h.least i d k ∙ ap number (sym (first_old i k)))
            | inr k ↦ (
                let q : i ≡ length cs = omega (arith, l, k, length_push cs c) in
                ap (λ (x : Component T). x.least) (get_or_push cs c d i (sym q)) ∙ (least ∙ ap number (sym (first_new i q))))
          ];
      empty = λ i d l.
          elim (cases_lt i (length cs)) [
            | inl k ↦ subst (IsEmpty value fits) (sym (get_or_append_left cs (c ∷ []) d i k)) (h.empty i d k)
            | inr k ↦ subst (IsEmpty value fits) (sym (get_or_push cs c d i (omega (arith, l, k, length_push cs c)))) empty
          ];
      place = λ i l.
          elim (cases_lt i (length cs)) [
            | inl k ↦ (
                let p : get_or places (name (first i)) 0 ≡ i = h.place i k in
                let o : name (first i) ≢ name e = λ q. absurd (let z : get_or places (name (first i)) 0 ≡ get_or places (name e) 0 = ap (λ a. get_or places a 0) q in omega (arith, z, p, free, few, k)) in
                ap (λ d. get_or places' (name d) 0) (first_old i k) ∙ (get_or-set_other places (name e) (name (first i)) (length cs) 0 o ∙ p))
            | inr k ↦ (
                let q : i ≡ length cs = omega (arith, l, k, length_push cs c) in
                ap (λ d. get_or places' (name d) 0) (first_new i q) ∙ (get_or-set_same places (name e) (length cs) 0 inside ∙ sym q))
          ];
      named = λ a l n.
          elim (cases_eq a (name e)) [
            | inl q ↦ (
                let p : get_or places' a 0 ≡ length cs = ap (λ b. get_or places' b 0) q ∙ get_or-set_same places (name e) (length cs) 0 inside in
                (omega (arith, p, length_push cs c), ap name (first_new (get_or places' a 0) p) ∙ sym q))
            | inr o ↦ (
                let p : get_or places' a 0 ≡ get_or places a 0 = get_or-set_other places (name e) a (length cs) 0 o in
                let k = h.named a (omega (arith, l, length-set places (name e) (length cs))) (λ z. n (p ∙ z)) in
                (omega (arith, p, k.0, length_push cs c), ap name (first_old (get_or places' a 0) (omega (arith, p, k.0)) ∙ ap first p) ∙ k.1))
          ];
    }
      where
        not_told : told name es e ≡ false
        not_told =
            elim (cases_Bool (told name es e)) [
              | inl t ↦ (
                  let d : (d : ℕ) × In d es × (eqb (name d) (name e) ≡ true) = in_any (λ d. eqb (name d) (name e)) es t in
                  let p : get_or places (name d.0) 0 < length cs = place_of d.0 d.1 few in
                  let q : get_or places (name d.0) 0 ≡ get_or places (name e) 0 = ap (λ a. get_or places a 0) (eqb-true (name d.0) (name e) d.2) in
                  absurd (omega (arith, p, q, free, few)))
              | inr f ↦ f
            ]

        more : firsts name (es ++ e ∷ []) ≡ firsts name es ++ e ∷ []
        more = firsts_last name es e ∙ ap (λ b. with_last name b es e) not_told

        first_old : (i : ℕ) → i < length cs → get_or (firsts name (es ++ e ∷ [])) i 0 ≡ first i
        first_old i l = ap (λ fs. get_or fs i 0) more ∙ get_or_append_left (firsts name es) (e ∷ []) 0 i (omega (arith, l, h.count))

        first_new : (i : ℕ) → i ≡ length cs → get_or (firsts name (es ++ e ∷ [])) i 0 ≡ e
        first_new i q = ap (λ fs. get_or fs i 0) more ∙ get_or_push (firsts name es) e 0 i (sym (q ∙ h.count))

-- the next label, by the labels and the numbers of edges
module _ {T : Type 0} (value : T → ℕ → ℤ) (fits : ℕ → T → Type 0) (joined places : List ℕ) (order : List (ℕ × ℕ)) (cs : List (Component T)) (n : ℕ) (low : n < length order)
    (inside : get_or joined (get_or order n (0, 0)).0 0 < length places) (label number : ℕ → ℕ) (es : List ℕ) (is : order ≡ map (λ e. (label e, number e)) es)
    (h : AreBegun value fits (λ e. get_or joined (label e) 0) number (take n es) places cs) where
  abbrev edge : ℕ
  edge = get_or es n 0

  long : n < length es
  long = (let e : length order ≡ length es = ap length is ∙ length-map es (λ e. (label e, number e)) in omega (arith, e, low))

  here : get_or order n (0, 0) ≡ (label edge, number edge)
  here = ap (λ os. get_or os n (0, 0)) is ∙ get_or-map (λ e. (label e, number e)) es n 0 (0, 0) long

  at : get_or joined (get_or order n (0, 0)).0 0 ≡ get_or joined (label edge) 0
  at = ap (λ (o : ℕ × ℕ). get_or joined o.0 0) here

  pub next_before : get_or places (get_or joined (get_or order n (0, 0)).0 0) 0 ≢ none → AreBegun value fits (λ e. get_or joined (label e) 0) number (take (n + 1) es) places cs
  next_before some =
      subst (λ ds. AreBegun value fits (λ e. get_or joined (label e) 0) number ds places cs) (sym (take_more es n 0 long))
      (begun_before value fits (λ e. get_or joined (label e) 0) number (take n es) places cs h edge (subst (λ a. a < length places) at inside) (subst (λ a. get_or places a 0 ≢ none) at some))

  pub next_more : (c : Component T) → get_or places (get_or joined (get_or order n (0, 0)).0 0) 0 ≡ none → length cs < none → c.least ≡ (get_or order n (0, 0)).1 → IsEmpty value fits c
      → AreBegun value fits (λ e. get_or joined (label e) 0) number (take (n + 1) es) (set places (get_or joined (get_or order n (0, 0)).0 0) (length cs)) (cs ++ c ∷ [])
  next_more c free few least empty =
      subst (λ ds. AreBegun value fits (λ e. get_or joined (label e) 0) number ds (set places (get_or joined (get_or order n (0, 0)).0 0) (length cs)) (cs ++ c ∷ [])) (sym (take_more es n 0 long))
      (subst (λ a. AreBegun value fits (λ e. get_or joined (label e) 0) number (take n es ++ edge ∷ []) (set places a (length cs)) (cs ++ c ∷ [])) (sym at)
      (begun_more value fits (λ e. get_or joined (label e) 0) number (take n es) places cs h edge (subst (λ a. a < length places) at inside) c (subst (λ a. get_or places a 0 ≡ none) at free) few
      (least ∙ ap (λ (o : ℕ × ℕ). o.1) here) empty))
