-- The range in which the labels of a loop's edges lie, and the labels that meet the smallest of them: one edge more.
use Rattle.std.proofs.Common.{◌≡◌, ◌≢◌, ℕ, ◌+◌, ◌<◌, ◌≤◌, List, [], ◌∷◌, ◌++◌, sym, ap, ◌∙◌, subst, inl, inr, min, max, arith}
use Rattle.std.specs.List.{AllByRecursion}
use Rattle.std.proofs.lemmas.Bool.{cases_eq, cases_lt}
use Rattle.std.proofs.Math.Nat.{le-max_left, le-max_right, min-eq_left, min-eq_right, min-le_left, min-le_right}
use Rattle.std.proofs.lemmas.List.{append_assoc}
use Rattle.part_laws.specs.Meets.{least_joined}
use Rattle.part_laws.proofs.LabelLaws.{joined_grows}
use Rattle.component_labels.specs.Fronts.{none}
use Rattle.component_labels.specs.Labelling.{Adds, IsOneOf, Stands}

stands_on : (stand : ℕ → ℕ) (n c : ℕ) → Stands stand n c → Stands stand (n + 1) c
stands_on stand n c h = record { at = h.at; inside = omega (arith, h.inside); is = h.is; some = h.some }

stands_last : (stand : ℕ → ℕ) (n c : ℕ) → stand n ≡ c → c ≢ none → Stands stand (n + 1) c
stands_last stand n c e d = record { at = n; inside = omega arith; is = e; some = d }

each_of : (P Q : ℕ → Type 0) (f : (c : ℕ) → P c → Q c) (ms : List (ℕ × ℕ)) → AllByRecursion (λ (p : ℕ × ℕ). P p.0 × P p.1) ms → AllByRecursion (λ (p : ℕ × ℕ). Q p.0 × Q p.1) ms
each_of P Q f [] h = tt
each_of P Q f (m ∷ ms) h = ((f m.0 h.0.0, f m.1 h.0.1), each_of P Q f ms h.1)

each_join : (Q : ℕ → Type 0) (ms ns : List (ℕ × ℕ)) → AllByRecursion (λ (p : ℕ × ℕ). Q p.0 × Q p.1) ms → AllByRecursion (λ (p : ℕ × ℕ). Q p.0 × Q p.1) ns
    → AllByRecursion (λ (p : ℕ × ℕ). Q p.0 × Q p.1) (ms ++ ns)
each_join Q [] ns h k = k
each_join Q (m ∷ ms) ns h k = (h.0, each_join Q ms ns h.1 k)

adds_of : (P Q : ℕ → Type 0) (f : (c : ℕ) → P c → Q c) (ps qs : List (ℕ × ℕ)) → Adds P ps qs → Adds Q ps qs
adds_of P Q f ps qs h = record { more = h.more; behind = h.behind; each = each_of P Q f h.more h.each }

adds_join : (Q : ℕ → Type 0) (ps qs rs : List (ℕ × ℕ)) → Adds Q ps qs → Adds Q qs rs → Adds Q ps rs
adds_join Q ps qs rs h k = record {
  more = h.more ++ k.more;
  behind = k.behind ∙ (ap (λ (xs : List (ℕ × ℕ)). xs ++ k.more) h.behind ∙ append_assoc ps h.more k.more);
  each = each_join Q h.more k.more h.each k.each;
}

-- what was joined stays so
added_joined : (P : ℕ → Type 0) (ps qs : List (ℕ × ℕ)) → Adds P ps qs → (a b : ℕ) → least_joined ps a ≡ least_joined ps b → least_joined qs a ≡ least_joined qs b
added_joined P ps qs h a b e = subst (λ xs. least_joined xs a ≡ least_joined xs b) (sym h.behind) (joined_grows ps h.more a b e)

-- the smallest of the labels of the first n edges
module _ (stand : ℕ → ℕ) (n least label less : ℕ) (last : stand n ≡ label) (is : less ≡ min least label) where
  pub low_on : ((i : ℕ) → i < n → least ≤ stand i) → (i : ℕ) → i < n + 1 → less ≤ stand i
  low_on h i l = elim (cases_eq i n) [ inl q ↦ omega (arith, is, min-le_right least label, ap stand q, last) | inr m ↦ omega (arith, is, min-le_left least label, h i (omega arith)) ]

  pub empty_on : least ≤ none → label ≤ none → (least ≡ none → (i : ℕ) → i < n → stand i ≡ none) → less ≡ none → (i : ℕ) → i < n + 1 → stand i ≡ none
  empty_on low fits h e i l =
      elim (cases_eq i n) [
        | inl q ↦ omega (arith, is, min-le_right least label, ap stand q, last)
        | inr m ↦ h (omega (arith, is, min-le_left least label)) i (omega arith)
      ]

  pub own_on : (least ≢ none → Stands stand n least) → less ≢ none → Stands stand (n + 1) less
  own_on h d =
      elim (cases_lt least label) [
        | inl l ↦ (let e : less ≡ least = is ∙ min-eq_left (omega arith) in subst (Stands stand (n + 1)) (sym e) (stands_on stand n least (h (λ z. d (e ∙ z)))))
        | inr l ↦ (let e : less ≡ label = is ∙ min-eq_right (omega arith) in subst (Stands stand (n + 1)) (sym e) (stands_last stand n label last (λ z. d (e ∙ z))))
      ]

-- a number above all of them
pub end_on : (stand : ℕ → ℕ) (n end label next more : ℕ) → stand n ≡ label → more ≡ max end next → (label ≢ none → label < next) → ((i : ℕ) → i < n → stand i ≢ none → stand i < end)
    → (i : ℕ) → i < n + 1 → stand i ≢ none → stand i < more
end_on stand n end label next more last is above h i l d =
    elim (cases_eq i n) [
      | inl q ↦ omega (arith, is, le-max_right end next, above (λ z. d (ap stand q ∙ (last ∙ z))), ap stand q, last)
      | inr m ↦ omega (arith, is, le-max_left end next, h i (omega arith) d)
    ]

-- a label of a loop of n edges meets the smallest one
module _ (ps qs rs : List (ℕ × ℕ)) (stand : ℕ → ℕ) (n at least label : ℕ) (last : stand at ≡ label) (added : Adds (IsOneOf least label) qs rs) where
  pub meet_added : at < n → Stands stand n least → label ≢ none → Adds (Stands stand n) ps qs → Adds (Stands stand n) ps rs
  meet_added l own d h = adds_join (Stands stand n) ps qs rs h (adds_of (IsOneOf least label) (Stands stand n) stands qs rs added)
    where
      stands : (c : ℕ) → IsOneOf least label c → Stands stand n c
      stands c (inl q) = subst (Stands stand n) (sym q) own
      stands c (inr q) = record { at = at; inside = l; is = last ∙ sym q; some = λ z. d (sym q ∙ z) }

  pub meet_joined : least_joined rs least ≡ least_joined rs label → ((i : ℕ) → i < at → stand i ≢ none → least_joined qs (stand i) ≡ least_joined qs least)
      → (i : ℕ) → i < at + 1 → stand i ≢ none → least_joined rs (stand i) ≡ least_joined rs least
  meet_joined joined before i l d =
      elim (cases_eq i at) [
        | inl q ↦ ap (least_joined rs) (ap stand q ∙ last) ∙ sym joined
        | inr m ↦ added_joined (IsOneOf least label) qs rs added (stand i) least (before i (omega arith) d)
      ]

-- an edge that has the smallest one, or none
pub same_joined : (qs : List (ℕ × ℕ)) (stand : ℕ → ℕ) (at least : ℕ) → (stand at ≢ none → stand at ≡ least)
    → ((i : ℕ) → i < at → stand i ≢ none → least_joined qs (stand i) ≡ least_joined qs least)
    → (i : ℕ) → i < at + 1 → stand i ≢ none → least_joined qs (stand i) ≡ least_joined qs least
same_joined qs stand at least is before i l d =
    elim (cases_eq i at) [ inl q ↦ ap (least_joined qs) (ap stand q ∙ is (λ z. d (ap stand q ∙ z))) | inr m ↦ before i (omega arith) d ]
