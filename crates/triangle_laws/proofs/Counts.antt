-- Counts over lists that are joined from parts.
use Rattle.std.proofs.Common.{◌≡◌, ℕ, ◌+◌, ◌<◌, ◌≤◌, Bool, true, cond, ◌&&◌, List, [], ◌∷◌, ◌++◌, map, refl, sym, ◌∙◌, ap, subst, inl, inr, arith, eqb, zero-add}
use Rattle.std.specs.List.{flat_map, count_by}
use Rattle.std.proofs.lemmas.Bool.{and_parts, or_cases, cases_Bool, eqb-true, eq-eqb, and_from, cases_lt}
use Rattle.std.proofs.lemmas.List.Sums.{sum_by-cons, sum_by-append}
use Rattle.iso_defs.specs.Lists.{has_pair, count_pair}
use Rattle.iso_defs.specs.Cell.{Triangle}
use Rattle.iso_defs.specs.Manifold.{runs, times_run, runs_of, all_runs}
use Rattle.triangle_laws.proofs.Lists.{In, In-flat_map, in_flat_map, in_any, any_in}

pub count-cons : {A : Type 0} (p : A → Bool) (x : A) (xs : List A) → count_by p (x ∷ xs) ≡ cond (p x) 1 0 + count_by p xs
count-cons p x xs = sum_by-cons (λ x. cond (p x) 1 0) x xs

pub count-append : {A : Type 0} (p : A → Bool) (xs ys : List A) → count_by p (xs ++ ys) ≡ count_by p xs + count_by p ys
count-append p xs ys = sum_by-append (λ x. cond (p x) 1 0) xs ys

pub count-map : {A B : Type 0} (p : B → Bool) (f : A → B) (xs : List A) → count_by p (map f xs) ≡ count_by (λ x. p (f x)) xs
count-map p f [] = refl
count-map p f (x ∷ xs) =
    count-cons p (f x) (map f xs) ∙ (ap (λ n. cond (p (f x)) 1 0 + n) (count-map p f xs) ∙ sym (count-cons (λ x. p (f x)) x xs))

pub count_agree : {A : Type 0} (p q : A → Bool) (xs : List A) → ((x : A) → In x xs → p x ≡ q x) → count_by p xs ≡ count_by q xs
count_agree p q [] h = refl
count_agree p q (x ∷ xs) h =
    count-cons p x xs ∙ (ap (λ b. cond b 1 0 + count_by p xs) (h x (inl refl))
    ∙ (ap (λ n. cond (q x) 1 0 + n) (count_agree p q xs (λ y i. h y (inr i))) ∙ sym (count-cons q x xs)))

pub count_finds : {A : Type 0} (p : A → Bool) (xs : List A) → 0 < count_by p xs → (x : A) × In x xs × (p x ≡ true)
count_finds p [] h = absurd (omega arith)
count_finds p (x ∷ xs) h =
    elim (cases_Bool (p x)) [
      | inl e ↦ (x, inl refl, e)
      | inr e ↦ (let k : 0 < count_by p xs = subst (λ n. 0 < n) (count-cons p x xs ∙ ap (λ b. cond b 1 0 + count_by p xs) e ∙ zero-add (count_by p xs)) h in
          let r : (y : _) × In y xs × (p y ≡ true) = count_finds p xs k in (r.0, inr r.1, r.2))
    ]

pub count_none : {A : Type 0} (p : A → Bool) (xs : List A) → ((x : A) → In x xs → p x ≡ true → ⊥) → count_by p xs ≡ 0
count_none p xs h =
    elim (cases_lt 0 (count_by p xs)) [
      | inl k ↦ (let r : (y : _) × In y xs × (p y ≡ true) = count_finds p xs k in absurd (h r.0 r.1 r.2))
      | inr k ↦ omega arith
    ]

pub count_some : {A : Type 0} (p : A → Bool) (xs : List A) (x : A) → In x xs → p x ≡ true → 0 < count_by p xs
count_some p [] x i h = absurd i
count_some p (y ∷ ys) x (inl e) h =
    let k : count_by p (y ∷ ys) ≡ 1 + count_by p ys = count-cons p y ys ∙ ap (λ b. cond b 1 0 + count_by p ys) (sym (ap p e) ∙ h) in omega arith
count_some p (y ∷ ys) x (inr i) h =
    let k : count_by p (y ∷ ys) ≡ cond (p y) 1 0 + count_by p ys = count-cons p y ys in
    let l : 0 < count_by p ys = count_some p ys x i h in omega arith

-- each element is different from those after it
abbrev pub Distinct : {A : Type 0} → List A → Type 0
Distinct [] = Unit {0}
Distinct (x ∷ xs) = (In x xs → ⊥) × Distinct xs

-- a test that passes in one part at most, and there once at most
pub count_once : {A B : Type 0} (p : B → Bool) (f : A → List B) (xs : List A) → Distinct xs
    → ((x : A) → In x xs → count_by p (f x) ≤ 1)
    → ((x y : A) → In x xs → In y xs → 0 < count_by p (f x) → 0 < count_by p (f y) → x ≡ y)
    → count_by p (flat_map f xs) ≤ 1
count_once p f [] d one same = omega arith
count_once {A} p f (x ∷ xs) d one same =
    let rest : count_by p (flat_map f xs) ≤ 1 = count_once p f xs d.1 (λ y i. one y (inr i)) (λ y z i j. same y z (inr i) (inr j)) in
    let here : count_by p (f x) ≤ 1 = one x (inl refl) in
    let both : count_by p (f x ++ flat_map f xs) ≡ count_by p (f x) + count_by p (flat_map f xs) = count-append p (f x) (flat_map f xs) in
    elim (cases_lt 0 (count_by p (f x))) [
      | inr k ↦ omega arith
      | inl k ↦ (let none : count_by p (flat_map f xs) ≡ 0 = count_none p (flat_map f xs) (λ b i h.
          let w : (y : A) × In y xs × In b (f y) = In-flat_map f b xs i in
          let e : x ≡ w.0 = same x w.0 (inl refl) (inr w.1) k (count_some p (f w.0) b w.2 h) in
          d.0 (subst (λ y. In y xs) (sym e) w.1)) in omega arith)
    ]

-- what a triangle runs
pub runs_in : (t : Triangle) (a b : ℕ) → runs a b t ≡ true → In (a, b) (runs_of t)
runs_in t a b h =
    elim (or_cases _ _ h) [
      | inl h0 ↦ (let e : (eqb t.0 a ≡ true) × (eqb t.1 b ≡ true) = and_parts _ _ h0 in
          inl (pair_eq (eqb-true _ _ e.0) (eqb-true _ _ e.1)))
      | inr k ↦ elim (or_cases _ _ k) [
        | inl h1 ↦ (let e : (eqb t.1 a ≡ true) × (eqb t.2 b ≡ true) = and_parts _ _ h1 in
            inr (inl (pair_eq (eqb-true _ _ e.0) (eqb-true _ _ e.1))))
        | inr h2 ↦ (let e : (eqb t.2 a ≡ true) × (eqb t.0 b ≡ true) = and_parts _ _ h2 in
            inr (inr (inl (pair_eq (eqb-true _ _ e.0) (eqb-true _ _ e.1)))))
      ]
    ]
  where
    pair_eq : {x y a b : ℕ} → x ≡ a → y ≡ b → ◌≡◌ {A = ℕ × ℕ} (a, b) (x, y)
    pair_eq {x} {y} {a} {b} e f = sym (ap (λ u. (u, y)) e ∙ ap (λ v. (a, v)) f)

pub eq_pair : (y : ℕ × ℕ) (a b : ℕ) → (eqb y.0 a && eqb y.1 b) ≡ true → y ≡ (a, b)
eq_pair y a b h =
    let e : (eqb y.0 a ≡ true) × (eqb y.1 b ≡ true) = and_parts _ _ h in
    ap (λ u. (u, y.1)) (eqb-true _ _ e.0) ∙ ap (λ v. (a, v)) (eqb-true _ _ e.1)

pub pair_in : (ps : List (ℕ × ℕ)) (a b : ℕ) → has_pair ps a b ≡ true → In (a, b) ps
pair_in ps a b h =
    let r : (y : ℕ × ℕ) × In y ps × ((eqb y.0 a && eqb y.1 b) ≡ true) = in_any (λ (y : ℕ × ℕ). eqb y.0 a && eqb y.1 b) ps h in
    subst (λ y. In y ps) (eq_pair r.0 a b r.2) r.1

pub in_pair : (ps : List (ℕ × ℕ)) (a b : ℕ) → In (a, b) ps → has_pair ps a b ≡ true
in_pair ps a b i = any_in (λ (y : ℕ × ℕ). eqb y.0 a && eqb y.1 b) ps (a, b) i (and_from _ _ (eq-eqb a a refl) (eq-eqb b b refl))

-- a triangle of the list that runs a pair
pub run_in : (ts : List Triangle) (t : Triangle) (a b : ℕ) → In t ts → runs a b t ≡ true → In (a, b) (all_runs ts)
run_in ts t a b i h = in_flat_map runs_of (a, b) t ts i (runs_in t a b h)

-- the number of triangles that run a pair is at most the number of times that it is run
pub times_le : (ts : List Triangle) (a b : ℕ) → times_run ts a b ≤ count_pair (all_runs ts) (a, b)
times_le [] a b = omega arith
times_le (t ∷ ts) a b =
    let l : times_run (t ∷ ts) a b ≡ cond (runs a b t) 1 0 + times_run ts a b = count-cons (runs a b) t ts in
    let p : ℕ × ℕ → Bool = λ (y : ℕ × ℕ). eqb y.0 a && eqb y.1 b in
    let r : count_pair (all_runs (t ∷ ts)) (a, b) ≡ count_by p (runs_of t) + count_by p (all_runs ts) = count-append p (runs_of t) (all_runs ts) in
    let h : times_run ts a b ≤ count_by p (all_runs ts) = times_le ts a b in
    elim (cases_Bool (runs a b t)) [
      | inl e ↦ (let k : 0 < count_by p (runs_of t) = count_some p (runs_of t) (a, b) (runs_in t a b e) (and_from _ _ (eq-eqb a a refl) (eq-eqb b b refl)) in
          let l' : times_run (t ∷ ts) a b ≡ 1 + times_run ts a b = l ∙ ap (λ x. cond x 1 0 + times_run ts a b) e in omega arith)
      | inr e ↦ (let l' : times_run (t ∷ ts) a b ≡ 0 + times_run ts a b = l ∙ ap (λ x. cond x 1 0 + times_run ts a b) e in omega arith)
    ]
