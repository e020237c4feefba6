-- One more crossing edge is left behind.
use Rattle.std.proofs.Common.{◌≡◌, ℕ, ◌+◌, ◌<◌, Bool, true, false, cond, ◌||◌, not, List, [], ◌∷◌, ◌++◌, map, length, get_or, set, refl, sym, ◌∙◌, ap, ap₂, subst, inl, inr, arith, eqb}
use Rattle.std.specs.List.{AllByRecursion, count_by, filter, list_any}
use Rattle.std.proofs.lemmas.Bool.{cases_eq, eq-eqb, ne_eqb}
use Rattle.std.proofs.lemmas.List.{get_or-set_other, get_or-set_same, length-set}
use Rattle.std.proofs.lemmas.List.Elements.{filter-append}
use Rattle.triangle_laws.proofs.Counts.{count-append, count-cons}
use Rattle.part_laws.specs.ByLabels.{firsts}
use Rattle.component_walk.specs.Passed.{AreEdges}

eqb_turned : (a b : ℕ) → eqb a b ≡ eqb b a
eqb_turned a b =
    elim (cases_eq a b) [
      | inl e ↦ eq-eqb a b e ∙ sym (eq-eqb b a (sym e))
      | inr n ↦ ne_eqb a b n ∙ sym (ne_eqb b a (λ e. n (sym e)))
    ]

module _ (f : ℕ → ℕ) where
  abbrev pub told : List ℕ → ℕ → Bool
  told es e = list_any (λ d. eqb (f d) (f e)) es

  abbrev pub with_last : Bool → List ℕ → ℕ → List ℕ
  with_last known es e = cond known (firsts f es) (firsts f es ++ e ∷ [])

  pub firsts_last : (es : List ℕ) (e : ℕ) → firsts f (es ++ e ∷ []) ≡ with_last (told es e) es e
  firsts_last [] e = refl
  firsts_last (x ∷ es) e =
      ap (λ ds. x ∷ filter (λ d. not (eqb (f d) (f x))) ds) (firsts_last es e) ∙ go (told es e) (eqb (f x) (f e)) refl
    where
      go : (known same : Bool) → eqb (f x) (f e) ≡ same → x ∷ filter (λ d. not (eqb (f d) (f x))) (with_last known es e)
          ≡ cond (same || known) (x ∷ filter (λ d. not (eqb (f d) (f x))) (firsts f es)) (x ∷ (filter (λ d. not (eqb (f d) (f x))) (firsts f es) ++ e ∷ []))
      go true true h = refl
      go true false h = refl
      go false same h =
          ap (λ ds. x ∷ ds) (filter-append (λ d. not (eqb (f d) (f x))) (firsts f es) (e ∷ []))
          ∙ (ap (λ b. x ∷ (filter (λ d. not (eqb (f d) (f x))) (firsts f es) ++ cond (not b) (e ∷ []) [])) (eqb_turned (f e) (f x) ∙ h) ∙ last same)
        where
          none_behind : (ds : List ℕ) → ds ++ [] ≡ ds
          none_behind [] = refl
          none_behind (d ∷ ds) = ap (λ l. d ∷ l) (none_behind ds)

          last : (b : Bool) → x ∷ (filter (λ d. not (eqb (f d) (f x))) (firsts f es) ++ cond (not b) (e ∷ []) [])
              ≡ cond (b || false) (x ∷ filter (λ d. not (eqb (f d) (f x))) (firsts f es)) (x ∷ (filter (λ d. not (eqb (f d) (f x))) (firsts f es) ++ e ∷ []))
          last true = ap (λ l. x ∷ l) (none_behind (filter (λ d. not (eqb (f d) (f x))) (firsts f es)))
          last false = refl

  -- a label was told where some edge has it
  told_by_count : (es : List ℕ) (e a : ℕ) → f e ≡ a → told es e ≡ not (eqb (count_by (λ d. eqb (f d) a) es) 0)
  told_by_count es e a is = ap (λ b. list_any (λ d. eqb (f d) b) es) is ∙ go es
    where
      go : (es : List ℕ) → list_any (λ d. eqb (f d) a) es ≡ not (eqb (count_by (λ d. eqb (f d) a) es) 0)
      go [] = refl
      go (x ∷ es) = first (eqb (f x) a) (go es) ∙ ap (λ n. not (eqb n 0)) (sym (count-cons (λ d. eqb (f d) a) x es))
        where
          first : (b : Bool) → list_any (λ d. eqb (f d) a) es ≡ not (eqb (count_by (λ d. eqb (f d) a) es) 0)
              → (b || list_any (λ d. eqb (f d) a) es) ≡ not (eqb (cond b 1 0 + count_by (λ d. eqb (f d) a) es) 0)
          first true h = sym (ap not (ne_eqb (1 + count_by (λ d. eqb (f d) a) es) 0 (λ e. absurd (omega (arith, e)))))
          first false h = h ∙ ap (λ n. not (eqb n 0)) (let e : count_by (λ d. eqb (f d) a) es ≡ 0 + count_by (λ d. eqb (f d) a) es = omega arith in e)

all_last : (n : ℕ) (f : ℕ → ℕ) (es : List ℕ) (e : ℕ) → AllByRecursion (λ d. f d < n) es → f e < n → AllByRecursion (λ d. f d < n) (es ++ e ∷ [])
all_last n f [] e h l = (l, tt)
all_last n f (x ∷ es) e h l = (h.0, all_last n f es e h.1 l)

map_last : (h : ℕ → ℕ × ℕ) (ds : List ℕ) (e : ℕ) → map h (ds ++ e ∷ []) ≡ map h ds ++ h e ∷ []
map_last h [] e = refl
map_last h (d ∷ ds) e = ap (λ l. h d ∷ l) (map_last h ds e)

-- an edge with a label is left behind
pub edges_more : (f number : ℕ → ℕ) (es : List ℕ) (e a n : ℕ) (cs : List ℕ) (order order' : List (ℕ × ℕ)) → AreEdges f number es cs order → f e ≡ a → number e ≡ n → a < length cs
    → order' ≡ cond (eqb (get_or cs a 0) 0) (order ++ (a, n) ∷ []) order → AreEdges f number (es ++ e ∷ []) (set cs a (get_or cs a 0 + 1)) order'
edges_more f number es e a n cs order order' h is num inside o = record {
  counts = λ b low.
      (let l : b < length cs = omega (arith, low, length-set cs a (get_or cs a 0 + 1)) in
      let old : get_or cs b 0 ≡ count_by (λ d. eqb (f d) b) es = h.counts b l in
      let whole : count_by (λ d. eqb (f d) b) (es ++ e ∷ []) ≡ count_by (λ d. eqb (f d) b) es + cond (eqb (f e) b) 1 0
      = count-append (λ d. eqb (f d) b) es (e ∷ []) ∙ ap (λ k. count_by (λ d. eqb (f d) b) es + k) (count-cons (λ d. eqb (f d) b) e [] ∙ (let z : cond (eqb (f e) b) 1 0 + 0 ≡ cond (eqb (f e) b) 1 0 = omega arith in z)) in
      elim (cases_eq b a) [
        | inl q ↦ (
            let new : get_or (set cs a (get_or cs a 0 + 1)) b 0 ≡ get_or cs b 0 + 1
            = subst (λ z. get_or (set cs a (get_or cs a 0 + 1)) z 0 ≡ get_or cs z 0 + 1) (sym q) (get_or-set_same cs a (get_or cs a 0 + 1) 0 inside) in
            let one : cond {A = ℕ} (eqb (f e) b) 1 0 ≡ 1 = ap (λ t. cond t 1 0) (eq-eqb (f e) b (is ∙ sym q)) in
            omega (arith, new, old, whole, one))
        | inr d ↦ (
            let new : get_or (set cs a (get_or cs a 0 + 1)) b 0 ≡ get_or cs b 0 = get_or-set_other cs a b (get_or cs a 0 + 1) 0 d in
            let none : cond {A = ℕ} (eqb (f e) b) 1 0 ≡ 0 = ap (λ t. cond t 1 0) (ne_eqb (f e) b (λ q. d (sym q ∙ is))) in
            omega (arith, new, old, whole, none))
      ]);
  firsts_are =
      o ∙ (go (eqb (get_or cs a 0) 0)
      ∙ (ap (λ b. map (λ d. (f d, number d)) (with_last f b es e)) (ap (λ k. not (eqb k 0)) (h.counts a inside) ∙ sym (told_by_count f es e a is))
      ∙ sym (ap (map (λ d. (f d, number d))) (firsts_last f es e))));
  low = subst (λ m. AllByRecursion (λ d. f d < m) (es ++ e ∷ [])) (sym (length-set cs a (get_or cs a 0 + 1))) (all_last (length cs) f es e h.low (subst (λ z. z < length cs) (sym is) inside));
}
  where
    go : (none : Bool) → cond none (order ++ (a, n) ∷ []) order ≡ map (λ d. (f d, number d)) (with_last f (not none) es e)
    go true = ap (λ l. l ++ (a, n) ∷ []) h.firsts_are ∙ (ap₂ (λ x y. map (λ d. (f d, number d)) (firsts f es) ++ (x, y) ∷ []) (sym is) (sym num) ∙ sym (map_last (λ d. (f d, number d)) (firsts f es) e))
    go false = h.firsts_are
