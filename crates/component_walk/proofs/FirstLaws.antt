-- The edges of which something is told for the first time.
use Rattle.std.proofs.Common.{◌≡◌, ℕ, ◌≤◌, Bool, true, false, cond, not, List, [], ◌∷◌, length, refl, sym, ◌∙◌, ap, inl, inr, arith, eqb}
use Rattle.std.specs.List.{filter}
use Rattle.std.proofs.lemmas.Bool.{both_ways, cases_Bool, eq-eqb, eqb-true, not-true, not_from_false}
use Rattle.part_laws.specs.ByLabels.{firsts}
use Rattle.triangle_laws.proofs.Lists.{In, in_filter}
use Rattle.component_walk.proofs.CellLaws.{filter_low}

-- what is told of an edge is told of one of the first edges
pub first_of : (f : ℕ → ℕ) (es : List ℕ) (d : ℕ) → In d es → (e : ℕ) × In e (firsts f es) × (f e ≡ f d)
first_of f [] d i = absurd i
first_of f (x ∷ es) d (inl q) = (x, inl refl, ap f (sym q))
first_of f (x ∷ es) d (inr i) =
    let e : (e : ℕ) × In e (firsts f es) × (f e ≡ f d) = first_of f es d i in
    elim (cases_Bool (eqb (f e.0) (f x))) [
      | inl t ↦ (x, inl refl, sym (eqb-true (f e.0) (f x) t) ∙ e.2)
      | inr n ↦ (e.0, inr (in_filter (λ d. not (eqb (f d) (f x))) e.0 (firsts f es) e.1 (not_from_false (eqb (f e.0) (f x)) n)), e.2)
    ]

-- they are no more than all
pub firsts_few : (f : ℕ → ℕ) (es : List ℕ) → length (firsts f es) ≤ length es
firsts_few f [] = omega arith
firsts_few f (e ∷ es) = omega (arith, filter_low (λ d. not (eqb (f d) (f e))) (firsts f es), firsts_few f es)

filter_swap : (p q : ℕ → Bool) (xs : List ℕ) → filter p (filter q xs) ≡ filter q (filter p xs)
filter_swap p q [] = refl
filter_swap p q (x ∷ xs) = go (p x) (q x) refl refl (filter_swap p q xs)
  where
    go : (a b : Bool) → p x ≡ a → q x ≡ b → filter p (filter q xs) ≡ filter q (filter p xs) → filter p (cond b (x ∷ filter q xs) (filter q xs)) ≡ filter q (cond a (x ∷ filter p xs) (filter p xs))
    go true true ha hb e = rw ha (rw hb (ap (λ l. x ∷ l) e))
    go true false ha hb e = rw hb e
    go false true ha hb e = rw ha e
    go false false ha hb e = e

-- a test that passes no more than another
filter_inside : (p q : ℕ → Bool) (xs : List ℕ) → ((x : ℕ) → p x ≡ true → q x ≡ true) → filter p (filter q xs) ≡ filter p xs
filter_inside p q [] h = refl
filter_inside p q (x ∷ xs) h = go (p x) (q x) refl refl (filter_inside p q xs h)
  where
    go : (a b : Bool) → p x ≡ a → q x ≡ b → filter p (filter q xs) ≡ filter p xs → filter p (cond b (x ∷ filter q xs) (filter q xs)) ≡ cond a (x ∷ filter p xs) (filter p xs)
    go true true ha hb e = rw ha (ap (λ l. x ∷ l) e)
    go true false ha hb e = absurd (both_ways (q x) hb (h x ha))
    go false true ha hb e = rw ha e
    go false false ha hb e = e

-- a test of what is told
firsts_pass : (f : ℕ → ℕ) (p : ℕ → Bool) → ((d e : ℕ) → f d ≡ f e → p d ≡ p e) → (es : List ℕ) → filter p (firsts f es) ≡ firsts f (filter p es)
firsts_pass f p same [] = refl
firsts_pass f p same (e ∷ es) = go (p e) refl (firsts_pass f p same es)
  where
    differs : (d : ℕ) → p e ≡ false → p d ≡ true → not (eqb (f d) (f e)) ≡ true
    differs d h t =
        elim (cases_Bool (eqb (f d) (f e))) [
          | inl q ↦ absurd (both_ways (p e) h (sym (same d e (eqb-true (f d) (f e) q)) ∙ t))
          | inr n ↦ not_from_false (eqb (f d) (f e)) n
        ]

    go : (b : Bool) → p e ≡ b → filter p (firsts f es) ≡ firsts f (filter p es)
        → cond b (e ∷ filter p (filter (λ d. not (eqb (f d) (f e))) (firsts f es))) (filter p (filter (λ d. not (eqb (f d) (f e))) (firsts f es)))
        ≡ firsts f (cond b (e ∷ filter p es) (filter p es))
    go true h k = ap (λ l. e ∷ l) (filter_swap p (λ d. not (eqb (f d) (f e))) (firsts f es) ∙ ap (filter (λ d. not (eqb (f d) (f e)))) k)
    go false h k = filter_inside p (λ d. not (eqb (f d) (f e))) (firsts f es) (λ d t. differs d h t) ∙ k

-- What is told of names that labels have is told for the first time of edges of which the label is told for the first time.
pub firsts_again : (f h : ℕ → ℕ) → ((d e : ℕ) → f d ≡ f e → h d ≡ h e) → (es : List ℕ) → firsts h (firsts f es) ≡ firsts h es
firsts_again f h same [] = refl
firsts_again f h same (e ∷ es) =
    let new : ℕ → Bool = λ d. not (eqb (h d) (h e)) in
    let other : ℕ → Bool = λ d. not (eqb (f d) (f e)) in
    let alike : (d c : ℕ) → h d ≡ h c → new d ≡ new c = λ d c q. ap (λ k. not (eqb k (h e))) q in
    ap (λ l. e ∷ l)
    (firsts_pass h new alike (filter other (firsts f es))
    ∙ (ap (firsts h) (filter_inside new other (firsts f es) differs)
    ∙ (sym (firsts_pass h new alike (firsts f es)) ∙ ap (filter new) (firsts_again f h same es))))
  where
    differs : (d : ℕ) → not (eqb (h d) (h e)) ≡ true → not (eqb (f d) (f e)) ≡ true
    differs d t =
        elim (cases_Bool (eqb (f d) (f e))) [
          | inl q ↦ absurd (both_ways (eqb (h d) (h e)) (not-true (eqb (h d) (h e)) t) (eq-eqb (h d) (h e) (same d e (eqb-true (f d) (f e) q))))
          | inr n ↦ not_from_false (eqb (f d) (f e)) n
        ]
