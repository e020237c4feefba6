-- Sums over the pairs of vertices.
use Rattle.std.proofs.Common.{◌≡◌, ℕ, ◌+◌, ◌*◌, ◌<◌, Bool, true, false, cond, ◌&&◌, List, [], ◌∷◌, map, refl, sym, ◌∙◌, ap, inl, inr, arith, eqb, nat_lt}
use Rattle.std.specs.List.{filter, flat_map, sum_by}
use Rattle.std.proofs.lemmas.Bool.{cases_lt, eqb-true, lt-ltb, ltb-true, and_parts, false_from_ne_true}
use Rattle.std.proofs.lemmas.List.Sums.{sum_by-cons, sum_by-append}
use Rattle.iso_defs.specs.Lists.{below, count_pair}
use Rattle.triangle_laws.proofs.Lists.{In, In-map, In-flat_map, In-filter}
use Rattle.triangle_laws.proofs.Counts.{count-cons}
use Rattle.mesh_report.specs.Report.{pairs}
use Rattle.mesh_report.proofs.Reach.{below_in}
use Rattle.mesh_report.proofs.Sums.{sum_agree, sum_add, sum_nothing, sum_at}

pub sum_flat : {A B : Type 0} (g : B → ℕ) (f : A → List B) (xs : List A) → sum_by g (flat_map f xs) ≡ sum_by (λ x. sum_by g (f x)) xs
sum_flat g f [] = refl
sum_flat g f (x ∷ xs) =
    sum_by-append g (f x) (flat_map f xs) ∙ (ap (λ k. sum_by g (f x) + k) (sum_flat g f xs) ∙ sym (sum_by-cons (λ x. sum_by g (f x)) x xs))

pub sum_map : {A B : Type 0} (g : B → ℕ) (f : A → B) (xs : List A) → sum_by g (map f xs) ≡ sum_by (λ x. g (f x)) xs
sum_map g f [] = refl
sum_map g f (x ∷ xs) = sum_by-cons g (f x) (map f xs) ∙ (ap (λ k. g (f x) + k) (sum_map g f xs) ∙ sym (sum_by-cons (λ x. g (f x)) x xs))

pub sum_filter : {A : Type 0} (g : A → ℕ) (p : A → Bool) (xs : List A) → sum_by g (filter p xs) ≡ sum_by (λ x. cond (p x) (g x) 0) xs
sum_filter g p [] = refl
sum_filter g p (x ∷ xs) = go (p x) (sum_filter g p xs) ∙ sym (sum_by-cons (λ x. cond (p x) (g x) 0) x xs)
  where
    go : (b : Bool) → sum_by g (filter p xs) ≡ sum_by (λ x. cond (p x) (g x) 0) xs
        → sum_by g (cond b (x ∷ filter p xs) (filter p xs)) ≡ cond b (g x) 0 + sum_by (λ x. cond (p x) (g x) 0) xs
    go true h = sum_by-cons g x (filter p xs) ∙ ap (λ k. g x + k) h
    go false h = h ∙ (let e : sum_by (λ x. cond (p x) (g x) 0) xs ≡ 0 + sum_by (λ x. cond (p x) (g x) 0) xs = omega arith in e)

-- a pair of vertices, the lesser first
pub in_pairs : (n : ℕ) (e : ℕ × ℕ) → In e (pairs n) → (e.0 < e.1) × (e.1 < n)
in_pairs n e i =
    let r : (a : ℕ) × In a (below n) × In e (map (λ b. (a, b)) (filter (nat_lt a) (below n))) = In-flat_map (λ a. map (λ b. (a, b)) (filter (nat_lt a) (below n))) e (below n) i in
    let s : (b : ℕ) × In b (filter (nat_lt r.0) (below n)) × (e ≡ (r.0, b)) = In-map (λ b. (r.0, b)) e (filter (nat_lt r.0) (below n)) r.2 in
    let k : In s.0 (below n) × (nat_lt r.0 s.0 ≡ true) = In-filter (nat_lt r.0) s.0 (below n) s.1 in
    let l : r.0 < s.0 = ltb-true r.0 s.0 k.1 in
    let m : s.0 < n = below_in n s.0 k.0 in
    let x : e.0 ≡ r.0 = ap (λ (p : ℕ × ℕ). p.0) s.2 in
    let y : e.1 ≡ s.0 = ap (λ (p : ℕ × ℕ). p.1) s.2 in
    (omega arith, omega arith)

-- what stands at one pair
pub sum_at_pair : (f : ℕ × ℕ → ℕ) (n a b : ℕ) → a < b → b < n → sum_by (λ (e : ℕ × ℕ). cond (eqb a e.0 && eqb b e.1) (f e) 0) (pairs n) ≡ f (a, b)
sum_at_pair f n a b l m =
    let g : ℕ × ℕ → ℕ = λ (e : ℕ × ℕ). cond (eqb a e.0 && eqb b e.1) (f e) 0 in
    let row : ℕ → ℕ = λ x. sum_by (λ y. cond (eqb b y) (f (x, y)) 0) (filter (nat_lt x) (below n)) in
    sum_flat g (λ x. map (λ y. (x, y)) (filter (nat_lt x) (below n))) (below n)
    ∙ (sum_agree (λ x. sum_by g (map (λ y. (x, y)) (filter (nat_lt x) (below n)))) (λ x. cond (eqb a x) (row x) 0) (below n)
    (λ x i. sum_map g (λ y. (x, y)) (filter (nat_lt x) (below n)) ∙ inner x (eqb a x))
    ∙ (sum_at row 0 n a (omega arith) (omega arith)
    ∙ (sum_filter (λ y. cond (eqb b y) (f (a, y)) 0) (nat_lt a) (below n)
    ∙ (sum_agree (λ y. cond (nat_lt a y) (cond (eqb b y) (f (a, y)) 0) 0) (λ y. cond (eqb b y) (cond (nat_lt a y) (f (a, y)) 0) 0) (below n)
    (λ y i. swap (nat_lt a y) (eqb b y) (f (a, y)))
    ∙ (sum_at (λ y. cond (nat_lt a y) (f (a, y)) 0) 0 n b (omega arith) (omega arith) ∙ ap (λ t. cond t (f (a, b)) 0) (lt-ltb a b l))))))
  where
    inner : (x : ℕ) (t : Bool) → sum_by (λ y. cond (t && eqb b y) (f (x, y)) 0) (filter (nat_lt x) (below n)) ≡ cond t (sum_by (λ y. cond (eqb b y) (f (x, y)) 0) (filter (nat_lt x) (below n))) 0
    inner x true = refl
    inner x false = sum_nothing (filter (nat_lt x) (below n))

    swap : (p q : Bool) (k : ℕ) → cond p (cond q k 0) 0 ≡ cond q (cond p k 0) 0
    swap true true k = refl
    swap true false k = refl
    swap false true k = refl
    swap false false k = refl

more_times : (b : Bool) (c y : ℕ) → (cond b 1 0 + c) * y ≡ cond b y 0 + c * y
more_times true c y = omega arith
more_times false c y = omega arith

and_swap : (x y : Bool) → (x && y) ≡ (y && x)
and_swap true true = refl
and_swap true false = refl
and_swap false true = refl
and_swap false false = refl

-- two different vertices of those below n
abbrev pub AreTwo : ℕ → ℕ × ℕ → Type 0
AreTwo n p = (p.0 ≡ p.1 → ⊥) × (p.0 < n) × (p.1 < n)

-- an ordered pair stands at one pair of vertices, in one of its two directions
abbrev at_one : (ℕ × ℕ → ℕ) → ℕ × ℕ → ℕ × ℕ → ℕ
at_one f p e = cond (eqb p.0 e.0 && eqb p.1 e.1) (f e) 0 + cond (eqb p.0 e.1 && eqb p.1 e.0) (f (e.1, e.0)) 0

one_pair : (f : ℕ × ℕ → ℕ) (n : ℕ) (p : ℕ × ℕ) → AreTwo n p → sum_by (at_one f p) (pairs n) ≡ f p
one_pair f n p two =
    let there : ℕ × ℕ → ℕ = λ (e : ℕ × ℕ). cond (eqb p.0 e.0 && eqb p.1 e.1) (f e) 0 in
    let back : ℕ × ℕ → ℕ = λ (e : ℕ × ℕ). cond (eqb p.0 e.1 && eqb p.1 e.0) (f (e.1, e.0)) 0 in
    let both : sum_by (at_one f p) (pairs n) ≡ sum_by there (pairs n) + sum_by back (pairs n) = sum_add there back (pairs n) in
    elim (cases_lt p.0 p.1) [
      | inl l ↦ (
          let x : sum_by there (pairs n) ≡ f p = sum_at_pair f n p.0 p.1 l two.2 in
          let y : sum_by back (pairs n) ≡ 0
          = sum_agree back (λ e. 0) (pairs n)
          (λ e i. ap (λ t. cond t (f (e.1, e.0)) 0)
          (false_from_ne_true (eqb p.0 e.1 && eqb p.1 e.0) (λ h.
          let q : (eqb p.0 e.1 ≡ true) × (eqb p.1 e.0 ≡ true) = and_parts (eqb p.0 e.1) (eqb p.1 e.0) h in
          let u : p.0 ≡ e.1 = eqb-true p.0 e.1 q.0 in
          let v : p.1 ≡ e.0 = eqb-true p.1 e.0 q.1 in
          let w : (e.0 < e.1) × (e.1 < n) = in_pairs n e i in
          absurd (omega (arith, w.0)))))
          ∙ sum_nothing (pairs n) in
          omega arith)
      | inr l ↦ (
          let m : p.1 < p.0 = omega (arith, two.0) in
          let x : sum_by there (pairs n) ≡ 0
          = sum_agree there (λ e. 0) (pairs n)
          (λ e i. ap (λ t. cond t (f e) 0)
          (false_from_ne_true (eqb p.0 e.0 && eqb p.1 e.1) (λ h.
          let q : (eqb p.0 e.0 ≡ true) × (eqb p.1 e.1 ≡ true) = and_parts (eqb p.0 e.0) (eqb p.1 e.1) h in
          let u : p.0 ≡ e.0 = eqb-true p.0 e.0 q.0 in
          let v : p.1 ≡ e.1 = eqb-true p.1 e.1 q.1 in
          let w : (e.0 < e.1) × (e.1 < n) = in_pairs n e i in
          absurd (omega (arith, w.0)))))
          ∙ sum_nothing (pairs n) in
          let y : sum_by back (pairs n) ≡ f p
          = sum_agree back (λ (e : ℕ × ℕ). cond (eqb p.1 e.0 && eqb p.0 e.1) (f (e.1, e.0)) 0) (pairs n)
          (λ e i. ap (λ t. cond t (f (e.1, e.0)) 0) (and_swap (eqb p.0 e.1) (eqb p.1 e.0)))
          ∙ sum_at_pair (λ (e : ℕ × ℕ). f (e.1, e.0)) n p.1 p.0 m two.1 in
          omega arith)
    ]

-- how often a list has a pair, in each direction, each time for what it is worth
abbrev pub at_both : (ℕ × ℕ → ℕ) → List (ℕ × ℕ) → ℕ × ℕ → ℕ
at_both f ps e = count_pair ps e * f e + count_pair ps (e.1, e.0) * f (e.1, e.0)

regroup : (w x y z : ℕ) → w + x + (y + z) ≡ w + y + (x + z)
regroup w x y z = omega arith

-- a sum over ordered pairs, by the pairs of vertices
pub sum_by_pairs : (f : ℕ × ℕ → ℕ) (n : ℕ) (ps : List (ℕ × ℕ)) → ((p : ℕ × ℕ) → In p ps → AreTwo n p) → sum_by f ps ≡ sum_by (at_both f ps) (pairs n)
sum_by_pairs f n [] h = sym (sum_agree (at_both f []) (λ e. 0) (pairs n) (λ e i. none (f e) (f (e.1, e.0))) ∙ sum_nothing (pairs n))
  where
    none : (x y : ℕ) → 0 * x + 0 * y ≡ 0
    none x y = omega arith
sum_by_pairs f n (p ∷ ps) h =
    let a : sum_by (at_one f p) (pairs n) ≡ f p = one_pair f n p (h p (inl refl)) in
    let b : sum_by f ps ≡ sum_by (at_both f ps) (pairs n) = sum_by_pairs f n ps (λ q i. h q (inr i)) in
    let c : sum_by f (p ∷ ps) ≡ f p + sum_by f ps = sum_by-cons f p ps in
    let d : sum_by (λ e. at_one f p e + at_both f ps e) (pairs n) ≡ sum_by (at_one f p) (pairs n) + sum_by (at_both f ps) (pairs n) = sum_add (at_one f p) (at_both f ps) (pairs n) in
    let e : sum_by (at_both f (p ∷ ps)) (pairs n) ≡ sum_by (λ e. at_one f p e + at_both f ps e) (pairs n)
    = sum_agree (at_both f (p ∷ ps)) (λ e. at_one f p e + at_both f ps e) (pairs n) (λ e i. each e) in
    omega (arith, a, b, c, d, e)
  where
    each : (e : ℕ × ℕ) → at_both f (p ∷ ps) e ≡ at_one f p e + at_both f ps e
    each e =
        let x : count_pair (p ∷ ps) e ≡ cond (eqb p.0 e.0 && eqb p.1 e.1) 1 0 + count_pair ps e = count-cons (λ (y : ℕ × ℕ). eqb y.0 e.0 && eqb y.1 e.1) p ps in
        let y : count_pair (p ∷ ps) (e.1, e.0) ≡ cond (eqb p.0 e.1 && eqb p.1 e.0) 1 0 + count_pair ps (e.1, e.0) = count-cons (λ (y : ℕ × ℕ). eqb y.0 e.1 && eqb y.1 e.0) p ps in
        let u : count_pair (p ∷ ps) e * f e ≡ cond (eqb p.0 e.0 && eqb p.1 e.1) (f e) 0 + count_pair ps e * f e
        = ap (λ k. k * f e) x ∙ more_times (eqb p.0 e.0 && eqb p.1 e.1) (count_pair ps e) (f e) in
        let v : count_pair (p ∷ ps) (e.1, e.0) * f (e.1, e.0) ≡ cond (eqb p.0 e.1 && eqb p.1 e.0) (f (e.1, e.0)) 0 + count_pair ps (e.1, e.0) * f (e.1, e.0)
        = ap (λ k. k * f (e.1, e.0)) y ∙ more_times (eqb p.0 e.1 && eqb p.1 e.0) (count_pair ps (e.1, e.0)) (f (e.1, e.0)) in
        ap (λ k. k + count_pair (p ∷ ps) (e.1, e.0) * f (e.1, e.0)) u
        ∙ (ap (λ k. cond (eqb p.0 e.0 && eqb p.1 e.1) (f e) 0 + count_pair ps e * f e + k) v
        ∙ regroup (cond (eqb p.0 e.0 && eqb p.1 e.1) (f e) 0) (count_pair ps e * f e) (cond (eqb p.0 e.1 && eqb p.1 e.0) (f (e.1, e.0)) 0) (count_pair ps (e.1, e.0) * f (e.1, e.0)))
