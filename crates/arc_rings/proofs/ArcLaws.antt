-- The arcs of a list of triangles against the pairs that it runs.
use Rattle.std.proofs.Common.{◌≡◌, ℕ, zero, suc, ◌+◌, ◌*◌, ◌<◌, ◌≤◌, Bool, true, false, cond, List, [], ◌∷◌, ◌++◌, length, get_or, refl, sym, ◌∙◌, ap, subst, inl, inr, arith, eqb, length-append}
use Rattle.std.specs.List.{count_by, All, AllByRecursion}
use Rattle.std.proofs.lemmas.Bool.{cases_eq, eq-eqb, eqb-true, ne_eqb, or_cases, and_parts}
use Rattle.std.proofs.lemmas.List.Elements.{recursion_from_All}
use Rattle.iso_defs.specs.Cell.{Triangle}
use Rattle.iso_defs.specs.Manifold.{HasThreeCorners, arcs, arc_of, runs, runs_of, all_runs, times_run}
use Rattle.iso_defs.specs.Verdict.{triangle_at}
use Rattle.iso_base.specs.Triangles.{IsBelow, triangle_of, triangles_of}
use Rattle.triangle_laws.proofs.Counts.{count-cons, count-append, count_some}
use Rattle.arc_rings.specs.Arcs.{ArcBelow}

pub triangle_is : (ts : List (List ℕ)) (k : ℕ) → k < length ts → triangle_at (triangles_of ts) k ≡ triangle_of (get_or ts k [])
triangle_is [] k l = absurd (omega arith)
triangle_is (t ∷ ts) zero l = refl
triangle_is (t ∷ ts) (suc k) l = triangle_is ts k (omega arith)

pub length_is : (ts : List (List ℕ)) → length (triangles_of ts) ≡ length ts
length_is [] = refl
length_is (t ∷ ts) = ap suc (length_is ts)

pub all_of : (P : Triangle → Type 0) (ts : List (List ℕ)) → All (λ t. P (triangle_of t)) ts → AllByRecursion P (triangles_of ts)
all_of P ts h = go ts (recursion_from_All (λ t. P (triangle_of t)) ts h)
  where
    go : (ts : List (List ℕ)) → AllByRecursion (λ t. P (triangle_of t)) ts → AllByRecursion P (triangles_of ts)
    go [] h = tt
    go (t ∷ ts) h = (h.0, go ts h.1)

all_append : {A : Type 0} (P : A → Type 0) (xs ys : List A) → AllByRecursion P xs → AllByRecursion P ys → AllByRecursion P (xs ++ ys)
all_append P [] ys h k = k
all_append P (x ∷ xs) ys h k = (h.0, all_append P xs ys h.1 k)

pub arcs_below : (n : ℕ) (ts : List Triangle) (v : ℕ) → AllByRecursion (IsBelow n) ts → AllByRecursion (ArcBelow n) (arcs ts v)
arcs_below n [] v h = tt
arcs_below n (t ∷ ts) v h = all_append (ArcBelow n) (arc_of v t) (arcs ts v) (one (eqb t.0 v) (eqb t.1 v) (eqb t.2 v)) (arcs_below n ts v h.1)
  where
    one : (x y z : Bool) → AllByRecursion (ArcBelow n) (cond x ((t.1, t.2) ∷ []) (cond y ((t.2, t.0) ∷ []) (cond z ((t.0, t.1) ∷ []) [])))
    one true y z = ((h.0.1, h.0.2), tt)
    one false true z = ((h.0.2, h.0.0), tt)
    one false false true = ((h.0.0, h.0.1), tt)
    one false false false = tt

pub arcs_few : (ts : List Triangle) (v : ℕ) → length (arcs ts v) ≤ length ts
arcs_few [] v = omega arith
arcs_few (t ∷ ts) v =
    let e : length (arcs (t ∷ ts) v) ≡ length (arc_of v t) + length (arcs ts v) = length-append (arc_of v t) (arcs ts v) in
    let o : length (arc_of v t) ≤ 1 = one (eqb t.0 v) (eqb t.1 v) (eqb t.2 v) in
    let r : length (arcs ts v) ≤ length ts = arcs_few ts v in
    omega arith
  where
    one : (x y z : Bool) → length {A = ℕ × ℕ} (cond x ((t.1, t.2) ∷ []) (cond y ((t.2, t.0) ∷ []) (cond z ((t.0, t.1) ∷ []) []))) ≤ 1
    one true y z = omega arith
    one false true z = omega arith
    one false false true = omega arith
    one false false false = omega arith

-- the arc of a triangle round each of its corners, and round no other vertex
module _ (t : Triangle) where
  abbrev chosen : Bool → Bool → Bool → List (ℕ × ℕ)
  chosen x y z = cond x ((t.1, t.2) ∷ []) (cond y ((t.2, t.0) ∷ []) (cond z ((t.0, t.1) ∷ []) []))

  arc_first : (a : ℕ) → t.0 ≡ a → arc_of a t ≡ (t.1, t.2) ∷ []
  arc_first a e = ap (λ x. chosen x (eqb t.1 a) (eqb t.2 a)) (eq-eqb t.0 a e)

  arc_second : (a : ℕ) → (t.0 ≡ a → ⊥) → t.1 ≡ a → arc_of a t ≡ (t.2, t.0) ∷ []
  arc_second a n e = ap (λ x. chosen x (eqb t.1 a) (eqb t.2 a)) (ne_eqb t.0 a n) ∙ ap (λ y. chosen false y (eqb t.2 a)) (eq-eqb t.1 a e)

  arc_third : (a : ℕ) → (t.0 ≡ a → ⊥) → (t.1 ≡ a → ⊥) → t.2 ≡ a → arc_of a t ≡ (t.0, t.1) ∷ []
  arc_third a n m e =
      ap (λ x. chosen x (eqb t.1 a) (eqb t.2 a)) (ne_eqb t.0 a n)
      ∙ (ap (λ y. chosen false y (eqb t.2 a)) (ne_eqb t.1 a m) ∙ ap (chosen false false) (eq-eqb t.2 a e))

  arc_none : (a : ℕ) → (t.0 ≡ a → ⊥) → (t.1 ≡ a → ⊥) → (t.2 ≡ a → ⊥) → arc_of a t ≡ []
  arc_none a n m o =
      ap (λ x. chosen x (eqb t.1 a) (eqb t.2 a)) (ne_eqb t.0 a n)
      ∙ (ap (λ y. chosen false y (eqb t.2 a)) (ne_eqb t.1 a m) ∙ ap (chosen false false) (ne_eqb t.2 a o))

pub arcs_beyond : (n : ℕ) (ts : List Triangle) (v : ℕ) → AllByRecursion (IsBelow n) ts → n ≤ v → arcs ts v ≡ []
arcs_beyond n [] v h l = refl
arcs_beyond n (t ∷ ts) v h l =
    let a : t.0 < n = h.0.0 in
    let b : t.1 < n = h.0.1 in
    let c : t.2 < n = h.0.2 in
    ap (λ k. k ++ arcs ts v) (arc_none t v (λ e. absurd (omega arith)) (λ e. absurd (omega arith)) (λ e. absurd (omega arith)))
    ∙ arcs_beyond n ts v h.1 l

one_in : (f : ℕ × ℕ → Bool) (ps : List (ℕ × ℕ)) (p : ℕ × ℕ) → ps ≡ p ∷ [] → f p ≡ true → 0 < count_by f ps
one_in f ps p e h = subst (λ l. 0 < count_by f l) (sym e) (count_some f (p ∷ []) p (inl refl) h)

-- a triangle that runs a pair has its arc
part_begun : (a b : ℕ) (t : Triangle) → HasThreeCorners t → runs a b t ≡ true → 0 < count_by (λ (p : ℕ × ℕ). eqb p.0 b) (arc_of a t)
part_begun a b t d h =
    elim (or_cases _ _ h) [
      | inl h0 ↦ (let e : (eqb t.0 a ≡ true) × (eqb t.1 b ≡ true) = and_parts _ _ h0 in
          one_in (λ (p : ℕ × ℕ). eqb p.0 b) (arc_of a t) (t.1, t.2) (arc_first t a (eqb-true t.0 a e.0)) e.1)
      | inr k ↦ elim (or_cases _ _ k) [
        | inl h1 ↦ (let e : (eqb t.1 a ≡ true) × (eqb t.2 b ≡ true) = and_parts _ _ h1 in
            one_in (λ (p : ℕ × ℕ). eqb p.0 b) (arc_of a t) (t.2, t.0) (arc_second t a (λ q. d.0 (q ∙ sym (eqb-true t.1 a e.0))) (eqb-true t.1 a e.0)) e.1)
        | inr h2 ↦ (let e : (eqb t.2 a ≡ true) × (eqb t.0 b ≡ true) = and_parts _ _ h2 in
            one_in (λ (p : ℕ × ℕ). eqb p.0 b) (arc_of a t) (t.0, t.1) (arc_third t a (λ q. d.2 (eqb-true t.2 a e.0 ∙ sym q)) (λ q. d.1 (q ∙ sym (eqb-true t.2 a e.0))) (eqb-true t.2 a e.0)) e.1)
      ]
    ]

part_ended : (c v : ℕ) (t : Triangle) → HasThreeCorners t → runs c v t ≡ true → 0 < count_by (λ (p : ℕ × ℕ). eqb p.1 c) (arc_of v t)
part_ended c v t d h =
    elim (or_cases _ _ h) [
      | inl h0 ↦ (let e : (eqb t.0 c ≡ true) × (eqb t.1 v ≡ true) = and_parts _ _ h0 in
          one_in (λ (p : ℕ × ℕ). eqb p.1 c) (arc_of v t) (t.2, t.0) (arc_second t v (λ q. d.0 (q ∙ sym (eqb-true t.1 v e.1))) (eqb-true t.1 v e.1)) e.0)
      | inr k ↦ elim (or_cases _ _ k) [
        | inl h1 ↦ (let e : (eqb t.1 c ≡ true) × (eqb t.2 v ≡ true) = and_parts _ _ h1 in
            one_in (λ (p : ℕ × ℕ). eqb p.1 c) (arc_of v t) (t.0, t.1) (arc_third t v (λ q. d.2 (eqb-true t.2 v e.1 ∙ sym q)) (λ q. d.1 (q ∙ sym (eqb-true t.2 v e.1))) (eqb-true t.2 v e.1)) e.0)
        | inr h2 ↦ (let e : (eqb t.2 c ≡ true) × (eqb t.0 v ≡ true) = and_parts _ _ h2 in
            one_in (λ (p : ℕ × ℕ). eqb p.1 c) (arc_of v t) (t.1, t.2) (arc_first t v (eqb-true t.0 v e.1)) e.0)
      ]
    ]

at_most : (x : Bool) (n : ℕ) → (x ≡ true → 0 < n) → cond x 1 0 ≤ n
at_most true n h = let l : 0 < n = h refl in omega arith
at_most false n h = omega arith

pub times_begun : (ts : List Triangle) (a b : ℕ) → AllByRecursion HasThreeCorners ts → times_run ts a b ≤ count_by (λ (p : ℕ × ℕ). eqb p.0 b) (arcs ts a)
times_begun [] a b d = omega arith
times_begun (t ∷ ts) a b d =
    let f : ℕ × ℕ → Bool = λ (p : ℕ × ℕ). eqb p.0 b in
    let k : count_by f (arcs (t ∷ ts) a) ≡ count_by f (arc_of a t) + count_by f (arcs ts a) = count-append f (arc_of a t) (arcs ts a) in
    let l : times_run (t ∷ ts) a b ≡ cond (runs a b t) 1 0 + times_run ts a b = count-cons (runs a b) t ts in
    let m : cond (runs a b t) 1 0 ≤ count_by f (arc_of a t) = at_most (runs a b t) (count_by f (arc_of a t)) (part_begun a b t d.0) in
    let n : times_run ts a b ≤ count_by f (arcs ts a) = times_begun ts a b d.1 in
    omega arith

pub times_ended : (ts : List Triangle) (c v : ℕ) → AllByRecursion HasThreeCorners ts → times_run ts c v ≤ count_by (λ (p : ℕ × ℕ). eqb p.1 c) (arcs ts v)
times_ended [] c v d = omega arith
times_ended (t ∷ ts) c v d =
    let f : ℕ × ℕ → Bool = λ (p : ℕ × ℕ). eqb p.1 c in
    let k : count_by f (arcs (t ∷ ts) v) ≡ count_by f (arc_of v t) + count_by f (arcs ts v) = count-append f (arc_of v t) (arcs ts v) in
    let l : times_run (t ∷ ts) c v ≡ cond (runs c v t) 1 0 + times_run ts c v = count-cons (runs c v) t ts in
    let m : cond (runs c v t) 1 0 ≤ count_by f (arc_of v t) = at_most (runs c v t) (count_by f (arc_of v t)) (part_ended c v t d.0) in
    let n : times_run ts c v ≤ count_by f (arcs ts v) = times_ended ts c v d.1 in
    omega arith

-- a sum over vertices of what is counted at each, against a count over the pairs that are run
module _ (P : ℕ × ℕ → Bool) where
  abbrev at_vertex : ℕ → ℕ × ℕ → Bool
  at_vertex v q = P (v, q.0)

  abbrev worth : ℕ × ℕ → ℕ
  worth p = cond (P p) 1 0

  abbrev part_below : Triangle → ℕ → ℕ
  part_below t zero = 0
  part_below t (suc v) = part_below t v + count_by (at_vertex v) (arc_of v t)

  abbrev pub total_below : List Triangle → ℕ → ℕ
  total_below ts zero = 0
  total_below ts (suc v) = total_below ts v + count_by (at_vertex v) (arcs ts v)

  abbrev once_below : ℕ → ℕ → ℕ → ℕ
  once_below k x zero = 0
  once_below k x (suc v) = once_below k x v + cond (eqb k v) x 0

  once_none : (k x n : ℕ) → n ≤ k → once_below k x n ≡ 0
  once_none k x zero l = refl
  once_none k x (suc v) l =
      let e : cond (eqb k v) x 0 ≡ 0 = ap (λ b. cond b x 0) (ne_eqb k v (λ q. absurd (omega arith))) in
      let r : once_below k x v ≡ 0 = once_none k x v (omega arith) in
      omega arith

  once_is : (k x n : ℕ) → k < n → once_below k x n ≡ x
  once_is k x zero l = absurd (omega arith)
  once_is k x (suc v) l =
      elim (cases_eq k v) [
        | inl q ↦ (let e : cond (eqb k v) x 0 ≡ x = ap (λ b. cond b x 0) (eq-eqb k v q) in let r : once_below k x v ≡ 0 = once_none k x v (omega arith) in omega arith)
        | inr q ↦ (let e : cond (eqb k v) x 0 ≡ 0 = ap (λ b. cond b x 0) (ne_eqb k v q) in let r : once_below k x v ≡ x = once_is k x v (omega arith) in omega arith)
      ]

  counted : (v : ℕ) (ps : List (ℕ × ℕ)) (q : ℕ × ℕ) → ps ≡ q ∷ [] → count_by (at_vertex v) ps ≡ worth (v, q.0)
  counted v ps q e = ap (count_by (at_vertex v)) e ∙ (count-cons (at_vertex v) q [] ∙ (let z : worth (v, q.0) + 0 ≡ worth (v, q.0) = omega arith in z))

  arc_counted : (t : Triangle) → HasThreeCorners t → (v : ℕ)
      → count_by (at_vertex v) (arc_of v t) ≡ cond (eqb t.0 v) (worth (t.0, t.1)) 0 + (cond (eqb t.1 v) (worth (t.1, t.2)) 0 + cond (eqb t.2 v) (worth (t.2, t.0)) 0)
  arc_counted t d v =
      elim (cases_eq t.0 v) [
        | inl e ↦ (
            let x : cond (eqb t.0 v) (worth (t.0, t.1)) 0 ≡ worth (t.0, t.1) = ap (λ b. cond b (worth (t.0, t.1)) 0) (eq-eqb t.0 v e) in
            let y : cond (eqb t.1 v) (worth (t.1, t.2)) 0 ≡ 0 = ap (λ b. cond b (worth (t.1, t.2)) 0) (ne_eqb t.1 v (λ q. d.0 (e ∙ sym q))) in
            let z : cond (eqb t.2 v) (worth (t.2, t.0)) 0 ≡ 0 = ap (λ b. cond b (worth (t.2, t.0)) 0) (ne_eqb t.2 v (λ q. d.2 (q ∙ sym e))) in
            let w : count_by (at_vertex v) (arc_of v t) ≡ worth (t.0, t.1) = counted v (arc_of v t) (t.1, t.2) (arc_first t v e) ∙ ap (λ u. worth (u, t.1)) (sym e) in
            omega arith)
        | inr n ↦ (
            let x : cond (eqb t.0 v) (worth (t.0, t.1)) 0 ≡ 0 = ap (λ b. cond b (worth (t.0, t.1)) 0) (ne_eqb t.0 v n) in
            elim (cases_eq t.1 v) [
              | inl e ↦ (
                  let y : cond (eqb t.1 v) (worth (t.1, t.2)) 0 ≡ worth (t.1, t.2) = ap (λ b. cond b (worth (t.1, t.2)) 0) (eq-eqb t.1 v e) in
                  let z : cond (eqb t.2 v) (worth (t.2, t.0)) 0 ≡ 0 = ap (λ b. cond b (worth (t.2, t.0)) 0) (ne_eqb t.2 v (λ q. d.1 (e ∙ sym q))) in
                  let w : count_by (at_vertex v) (arc_of v t) ≡ worth (t.1, t.2) = counted v (arc_of v t) (t.2, t.0) (arc_second t v n e) ∙ ap (λ u. worth (u, t.2)) (sym e) in
                  omega arith)
              | inr m ↦ (
                  let y : cond (eqb t.1 v) (worth (t.1, t.2)) 0 ≡ 0 = ap (λ b. cond b (worth (t.1, t.2)) 0) (ne_eqb t.1 v m) in
                  elim (cases_eq t.2 v) [
                    | inl e ↦ (
                        let z : cond (eqb t.2 v) (worth (t.2, t.0)) 0 ≡ worth (t.2, t.0) = ap (λ b. cond b (worth (t.2, t.0)) 0) (eq-eqb t.2 v e) in
                        let w : count_by (at_vertex v) (arc_of v t) ≡ worth (t.2, t.0) = counted v (arc_of v t) (t.0, t.1) (arc_third t v n m e) ∙ ap (λ u. worth (u, t.0)) (sym e) in
                        omega arith)
                    | inr o ↦ (
                        let z : cond (eqb t.2 v) (worth (t.2, t.0)) 0 ≡ 0 = ap (λ b. cond b (worth (t.2, t.0)) 0) (ne_eqb t.2 v o) in
                        let w : count_by (at_vertex v) (arc_of v t) ≡ 0 = ap (count_by (at_vertex v)) (arc_none t v n m o) in
                        omega arith)
                  ])
            ])
      ]

  part_parts : (t : Triangle) → HasThreeCorners t → (n : ℕ)
      → part_below t n ≡ once_below t.0 (worth (t.0, t.1)) n + (once_below t.1 (worth (t.1, t.2)) n + once_below t.2 (worth (t.2, t.0)) n)
  part_parts t d zero = refl
  part_parts t d (suc v) = omega (arith, part_parts t d v, arc_counted t d v)

  part_is : (t : Triangle) (n : ℕ) → HasThreeCorners t → IsBelow n t → part_below t n ≡ count_by P (runs_of t)
  part_is t n d b =
      let p : part_below t n ≡ once_below t.0 (worth (t.0, t.1)) n + (once_below t.1 (worth (t.1, t.2)) n + once_below t.2 (worth (t.2, t.0)) n) = part_parts t d n in
      let x : once_below t.0 (worth (t.0, t.1)) n ≡ worth (t.0, t.1) = once_is t.0 (worth (t.0, t.1)) n b.0 in
      let y : once_below t.1 (worth (t.1, t.2)) n ≡ worth (t.1, t.2) = once_is t.1 (worth (t.1, t.2)) n b.1 in
      let z : once_below t.2 (worth (t.2, t.0)) n ≡ worth (t.2, t.0) = once_is t.2 (worth (t.2, t.0)) n b.2 in
      let u : count_by P ((t.2, t.0) ∷ []) ≡ worth (t.2, t.0) + 0 = count-cons P (t.2, t.0) [] in
      let v : count_by P ((t.1, t.2) ∷ (t.2, t.0) ∷ []) ≡ worth (t.1, t.2) + count_by P ((t.2, t.0) ∷ []) = count-cons P (t.1, t.2) ((t.2, t.0) ∷ []) in
      let w : count_by P (runs_of t) ≡ worth (t.0, t.1) + count_by P ((t.1, t.2) ∷ (t.2, t.0) ∷ []) = count-cons P (t.0, t.1) ((t.1, t.2) ∷ (t.2, t.0) ∷ []) in
      ((p ∙ (ap (λ k. k + (once_below t.1 (worth (t.1, t.2)) n + once_below t.2 (worth (t.2, t.0)) n)) x
      ∙ (ap (λ k. worth (t.0, t.1) + (k + once_below t.2 (worth (t.2, t.0)) n)) y ∙ ap (λ k. worth (t.0, t.1) + (worth (t.1, t.2) + k)) z)))
      ∙ (let q : worth (t.0, t.1) + (worth (t.1, t.2) + worth (t.2, t.0)) ≡ worth (t.0, t.1) + (worth (t.1, t.2) + (worth (t.2, t.0) + 0)) = omega arith in q))
      ∙ sym (w ∙ ap (λ k. worth (t.0, t.1) + k) (v ∙ ap (λ k. worth (t.1, t.2) + k) u))

  total_parts : (t : Triangle) (ts : List Triangle) (n : ℕ) → total_below (t ∷ ts) n ≡ part_below t n + total_below ts n
  total_parts t ts zero = refl
  total_parts t ts (suc v) =
      let k : count_by (at_vertex v) (arcs (t ∷ ts) v) ≡ count_by (at_vertex v) (arc_of v t) + count_by (at_vertex v) (arcs ts v) = count-append (at_vertex v) (arc_of v t) (arcs ts v) in
      omega (arith, total_parts t ts v, k)

  total_none : (n : ℕ) → total_below [] n ≡ 0
  total_none zero = refl
  total_none (suc v) = omega (arith, total_none v)

  pub total_is : (ts : List Triangle) (n : ℕ) → AllByRecursion HasThreeCorners ts → AllByRecursion (IsBelow n) ts → total_below ts n ≡ count_by P (all_runs ts)
  total_is [] n d b = total_none n
  total_is (t ∷ ts) n d b =
      total_parts t ts n ∙ (ap (λ k. k + total_below ts n) (part_is t n d.0 b.0)
      ∙ (ap (λ k. count_by P (runs_of t) + k) (total_is ts n d.1 b.1) ∙ sym (count-append P (runs_of t) (all_runs ts))))

pub runs_three : (ts : List Triangle) → length (all_runs ts) ≡ 3 * length ts
runs_three [] = refl
runs_three (t ∷ ts) =
    let e : length (all_runs (t ∷ ts)) ≡ 3 + length (all_runs ts) = length-append (runs_of t) (all_runs ts) in
    omega (arith, runs_three ts, e)
