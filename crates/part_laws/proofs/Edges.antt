-- The edges of triangles, by faces and border: each triangle has three sides, and an edge is one side or two.
use Rattle.std.proofs.Common.{◌≡◌, ℕ, zero, suc, ◌+◌, ◌*◌, ◌<◌, ◌≤◌, Bool, true, false, cond, ◌&&◌, List, [], ◌∷◌, length, refl, sym, ◌∙◌, ap, inl, inr, arith, eqb, nat_lt}
use Rattle.std.specs.List.{filter, sum_by, count_by, AllByRecursion}
use Rattle.std.proofs.lemmas.List.Sums.{length-filter}
use Rattle.iso_defs.specs.Cell.{Triangle}
use Rattle.iso_defs.specs.Manifold.{HasThreeCorners, runs, runs_of, all_runs, times_run}
use Rattle.iso_base.specs.Triangles.{IsBelow}
use Rattle.triangle_laws.proofs.Lists.{In, In-flat_map}
use Rattle.triangle_laws.proofs.Counts.{count-cons, count-append, count_finds, runs_in}
use Rattle.mesh_report.specs.Report.{has_both, are_joined, has_one_side, pairs, edges}
use Rattle.mesh_report.proofs.Sums.{sum_agree, sum_add}
use Rattle.mesh_report.proofs.GraphLaws.{any-count}
use Rattle.mesh_report.proofs.NumberLaws.{count_filter, AgreesOn}
use Rattle.part_laws.proofs.PairSums.{AreTwo, in_pairs, at_both, sum_by_pairs}
use Rattle.part_laws.proofs.Sides.{sides_counted, edge_sides}

pub at_in : {A : Type 0} (P : A → Type 0) (xs : List A) → AllByRecursion P xs → (x : A) → In x xs → P x
at_in P [] h x i = absurd i
at_in P (y ∷ ys) h x (inl e) = subst_back P x y e h.0
  where
    subst_back : {A : Type 0} (P : A → Type 0) (x y : A) → x ≡ y → P y → P x
    subst_back P x y e p = rw e p
at_in P (y ∷ ys) h x (inr i) = at_in P ys h.1 x i

-- the sides of an edge in both directions, each at most once, against the edge and whether it has one side
two_sides : (t u : ℕ) (x y : Bool) → t ≤ 1 → u ≤ 1 → (0 < u → x ≡ y) →
    t * cond x 1 0 + u * cond y 1 0 + cond (nat_lt 0 (t + u) && (x && eqb (t + u) 1)) 1 0 ≡ 2 * cond (nat_lt 0 (t + u) && x) 1 0
two_sides zero zero true true h k e = refl
two_sides zero zero true false h k e = refl
two_sides zero zero false true h k e = refl
two_sides zero zero false false h k e = refl
two_sides (suc zero) zero true true h k e = refl
two_sides (suc zero) zero true false h k e = refl
two_sides (suc zero) zero false true h k e = refl
two_sides (suc zero) zero false false h k e = refl
two_sides zero (suc zero) true true h k e = refl
two_sides zero (suc zero) true false h k e = absurd (let z : true ≡ false = e (omega arith) in cc)
two_sides zero (suc zero) false true h k e = absurd (let z : false ≡ true = e (omega arith) in cc)
two_sides zero (suc zero) false false h k e = refl
two_sides (suc zero) (suc zero) true true h k e = refl
two_sides (suc zero) (suc zero) true false h k e = absurd (let z : true ≡ false = e (omega arith) in cc)
two_sides (suc zero) (suc zero) false true h k e = absurd (let z : false ≡ true = e (omega arith) in cc)
two_sides (suc zero) (suc zero) false false h k e = refl
two_sides (suc (suc t)) u x y h k e = absurd (omega arith)
two_sides t (suc (suc u)) x y h k e = absurd (omega arith)

-- and those that are not run back
lone_side : (t u : ℕ) (x y : Bool) → t ≤ 1 → u ≤ 1 → (0 < u → x ≡ y) →
    t * cond (x && eqb u 0) 1 0 + u * cond (y && eqb t 0) 1 0 ≡ cond (nat_lt 0 (t + u) && (x && eqb (t + u) 1)) 1 0
lone_side zero zero true true h k e = refl
lone_side zero zero true false h k e = refl
lone_side zero zero false true h k e = refl
lone_side zero zero false false h k e = refl
lone_side (suc zero) zero true true h k e = refl
lone_side (suc zero) zero true false h k e = refl
lone_side (suc zero) zero false true h k e = refl
lone_side (suc zero) zero false false h k e = refl
lone_side zero (suc zero) true true h k e = refl
lone_side zero (suc zero) true false h k e = absurd (let z : true ≡ false = e (omega arith) in cc)
lone_side zero (suc zero) false true h k e = absurd (let z : false ≡ true = e (omega arith) in cc)
lone_side zero (suc zero) false false h k e = refl
lone_side (suc zero) (suc zero) true true h k e = refl
lone_side (suc zero) (suc zero) true false h k e = refl
lone_side (suc zero) (suc zero) false true h k e = refl
lone_side (suc zero) (suc zero) false false h k e = refl
lone_side (suc (suc t)) u x y h k e = absurd (omega arith)
lone_side t (suc (suc u)) x y h k e = absurd (omega arith)

-- the edges of which the lesser vertex passes a test, and those of them that lie in one triangle
abbrev pub edges_with : ℕ → List Triangle → (ℕ → Bool) → List (ℕ × ℕ)
edges_with n ts T = filter (λ (e : ℕ × ℕ). T e.0) (edges n ts)

abbrev pub border_with : ℕ → List Triangle → (ℕ → Bool) → ℕ
border_with n ts T = length (filter (has_one_side ts) (edges_with n ts T))

module _ (n : ℕ) (ts : List Triangle) (d : AllByRecursion HasThreeCorners ts) (b : AllByRecursion (IsBelow n) ts) (once : (a c : ℕ) → times_run ts a c ≤ 1)
    (T : ℕ → Bool) (agree : AllByRecursion (AgreesOn T) ts) where
  sides_two : (p : ℕ × ℕ) → In p (all_runs ts) → AreTwo n p
  sides_two p i =
      let t : (t : Triangle) × In t ts × In p (runs_of t) = In-flat_map runs_of p ts i in
      go t.0 (at_in HasThreeCorners ts d t.0 t.1) (at_in (IsBelow n) ts b t.0 t.1) t.2
    where
      go : (t : Triangle) → HasThreeCorners t → IsBelow n t → In p (runs_of t) → AreTwo n p
      go t d b (inl e) = rw e (d.0, b.0, b.1)
      go t d b (inr (inl e)) = rw e (d.1, b.1, b.2)
      go t d b (inr (inr (inl e))) = rw e (d.2, b.2, b.0)
      go t d b (inr (inr (inr i))) = absurd i

  -- the ends of a side pass alike
  side_agrees : (x y : ℕ) → 0 < times_run ts x y → T y ≡ T x
  side_agrees x y l =
      let t : (t : Triangle) × In t ts × (runs x y t ≡ true) = count_finds (runs x y) ts l in
      go t.0 (at_in (AgreesOn T) ts agree t.0 t.1) (runs_in t.0 x y t.2)
    where
      go : (t : Triangle) → AgreesOn T t → In (x, y) (runs_of t) → T y ≡ T x
      go t a (inl e) = ap (λ (p : ℕ × ℕ). T p.1) e ∙ (a.0 ∙ sym (ap (λ (p : ℕ × ℕ). T p.0) e))
      go t a (inr (inl e)) = ap (λ (p : ℕ × ℕ). T p.1) e ∙ (a.1 ∙ (sym a.0 ∙ sym (ap (λ (p : ℕ × ℕ). T p.0) e)))
      go t a (inr (inr (inl e))) = ap (λ (p : ℕ × ℕ). T p.1) e ∙ (sym a.1 ∙ sym (ap (λ (p : ℕ × ℕ). T p.0) e))
      go t a (inr (inr (inr i))) = absurd i

  -- the edge at a pair of vertices, by the sides in both directions
  joined_sides : (e : ℕ × ℕ) → (e.0 ≡ e.1 → ⊥) → are_joined ts e.0 e.1 ≡ nat_lt 0 (times_run ts e.0 e.1 + times_run ts e.1 e.0)
  joined_sides e ne = any-count (has_both e.0 e.1) ts ∙ ap (λ k. nat_lt 0 k) (edge_sides e.0 e.1 ne ts d)

  lone_sides : (e : ℕ × ℕ) → (e.0 ≡ e.1 → ⊥) → has_one_side ts e ≡ eqb (times_run ts e.0 e.1 + times_run ts e.1 e.0) 1
  lone_sides e ne = ap (λ k. eqb k 1) (edge_sides e.0 e.1 ne ts d)

  abbrev edge_at : ℕ × ℕ → ℕ
  edge_at e = cond (are_joined ts e.0 e.1 && T e.0) 1 0

  abbrev border_at : ℕ × ℕ → ℕ
  border_at e = cond (are_joined ts e.0 e.1 && (T e.0 && has_one_side ts e)) 1 0

  edges_summed : length (edges_with n ts T) ≡ sum_by edge_at (pairs n)
  edges_summed =
      length-filter (λ (e : ℕ × ℕ). T e.0) (edges n ts)
      ∙ count_filter (λ (e : ℕ × ℕ). T e.0) (λ (e : ℕ × ℕ). are_joined ts e.0 e.1) (pairs n)

  border_summed : border_with n ts T ≡ sum_by border_at (pairs n)
  border_summed =
      length-filter (has_one_side ts) (edges_with n ts T)
      ∙ (count_filter (has_one_side ts) (λ (e : ℕ × ℕ). T e.0) (edges n ts)
      ∙ count_filter (λ (e : ℕ × ℕ). T e.0 && has_one_side ts e) (λ (e : ℕ × ℕ). are_joined ts e.0 e.1) (pairs n))

  -- the sides that begin at vertices that pass
  abbrev begins_with : ℕ × ℕ → Bool
  begins_with p = T p.0

  pub sides_are : count_by (λ (p : ℕ × ℕ). T p.0) (all_runs ts) ≡ 3 * length (filter (λ (t : Triangle). T t.0) ts)
  sides_are = go ts agree ∙ ap (λ k. 3 * k) (sym (length-filter (λ (t : Triangle). T t.0) ts))
    where
      go : (ts : List Triangle) → AllByRecursion (AgreesOn T) ts → count_by (λ (p : ℕ × ℕ). T p.0) (all_runs ts) ≡ 3 * count_by (λ (t : Triangle). T t.0) ts
      go [] h = refl
      go (t ∷ ts) h =
          let P : ℕ × ℕ → Bool = λ (p : ℕ × ℕ). T p.0 in
          let a : count_by P (all_runs (t ∷ ts)) ≡ count_by P (runs_of t) + count_by P (all_runs ts) = count-append P (runs_of t) (all_runs ts) in
          let u : count_by P ((t.2, t.0) ∷ []) ≡ cond (T t.2) 1 0 + 0 = count-cons P (t.2, t.0) [] in
          let v : count_by P ((t.1, t.2) ∷ (t.2, t.0) ∷ []) ≡ cond (T t.1) 1 0 + count_by P ((t.2, t.0) ∷ []) = count-cons P (t.1, t.2) ((t.2, t.0) ∷ []) in
          let w : count_by P (runs_of t) ≡ cond (T t.0) 1 0 + count_by P ((t.1, t.2) ∷ (t.2, t.0) ∷ []) = count-cons P (t.0, t.1) ((t.1, t.2) ∷ (t.2, t.0) ∷ []) in
          let x : cond {A = ℕ} (T t.1) 1 0 ≡ cond (T t.0) 1 0 = ap (λ b. cond b 1 0) h.0.0 in
          let y : cond {A = ℕ} (T t.2) 1 0 ≡ cond (T t.0) 1 0 = ap (λ b. cond b 1 0) h.0.1 in
          let z : count_by (λ (t : Triangle). T t.0) (t ∷ ts) ≡ cond (T t.0) 1 0 + count_by (λ (t : Triangle). T t.0) ts = count-cons (λ (t : Triangle). T t.0) t ts in
          let r : count_by P (all_runs ts) ≡ 3 * count_by (λ (t : Triangle). T t.0) ts = go ts h.1 in
          omega arith

  -- twice the edges are three times the faces and the border
  pub edges_told : 2 * length (edges_with n ts T) ≡ 3 * length (filter (λ (t : Triangle). T t.0) ts) + border_with n ts T
  edges_told =
      let f : ℕ × ℕ → ℕ = λ (p : ℕ × ℕ). cond (T p.0) 1 0 in
      let x : sum_by f (all_runs ts) ≡ 3 * length (filter (λ (t : Triangle). T t.0) ts) = sides_are in
      let y : sum_by f (all_runs ts) ≡ sum_by (at_both f (all_runs ts)) (pairs n) = sum_by_pairs f n (all_runs ts) sides_two in
      let z : sum_by (λ e. at_both f (all_runs ts) e + border_at e) (pairs n) ≡ sum_by (λ e. edge_at e + edge_at e) (pairs n)
      = sum_agree (λ e. at_both f (all_runs ts) e + border_at e) (λ e. edge_at e + edge_at e) (pairs n) (λ e i. at e (in_pairs n e i)) in
      let u : sum_by (λ e. at_both f (all_runs ts) e + border_at e) (pairs n) ≡ sum_by (at_both f (all_runs ts)) (pairs n) + sum_by border_at (pairs n)
      = sum_add (at_both f (all_runs ts)) border_at (pairs n) in
      let v : sum_by (λ e. edge_at e + edge_at e) (pairs n) ≡ sum_by edge_at (pairs n) + sum_by edge_at (pairs n) = sum_add edge_at edge_at (pairs n) in
      omega (arith, edges_summed, border_summed)
    where
      at : (e : ℕ × ℕ) → (e.0 < e.1) × (e.1 < n) → at_both (λ (p : ℕ × ℕ). cond (T p.0) 1 0) (all_runs ts) e + border_at e ≡ edge_at e + edge_at e
      at e low =
          let ne : e.0 ≡ e.1 → ⊥ = λ q. absurd (omega (arith, low.0)) in
          let k : t * cond (T e.0) 1 0 + u * cond (T e.1) 1 0 + cond (nat_lt 0 (t + u) && (T e.0 && eqb (t + u) 1)) 1 0 ≡ 2 * cond (nat_lt 0 (t + u) && T e.0) 1 0
          = two_sides t u (T e.0) (T e.1) (once e.0 e.1) (once e.1 e.0) (λ l. side_agrees e.1 e.0 l) in
          rw (sides_counted ts e.0 e.1 d, sides_counted ts e.1 e.0 d, joined_sides e ne, lone_sides e ne) (k ∙ double (cond (nat_lt 0 (t + u) && T e.0) 1 0))
        where
          t : ℕ
          t = times_run ts e.0 e.1

          u : ℕ
          u = times_run ts e.1 e.0

          double : (k : ℕ) → 2 * k ≡ k + k
          double k = omega arith

  -- the border edges are the sides that are not run back
  pub border_told : border_with n ts T ≡ count_by (λ (p : ℕ × ℕ). T p.0 && eqb (times_run ts p.1 p.0) 0) (all_runs ts)
  border_told =
      let f : ℕ × ℕ → ℕ = λ (p : ℕ × ℕ). cond (T p.0 && eqb (times_run ts p.1 p.0) 0) 1 0 in
      border_summed
      ∙ sym (sum_by_pairs f n (all_runs ts) sides_two ∙ sum_agree (at_both f (all_runs ts)) border_at (pairs n) (λ e i. at e (in_pairs n e i)))
    where
      at : (e : ℕ × ℕ) → (e.0 < e.1) × (e.1 < n) → at_both (λ (p : ℕ × ℕ). cond (T p.0 && eqb (times_run ts p.1 p.0) 0) 1 0) (all_runs ts) e ≡ border_at e
      at e low =
          let ne : e.0 ≡ e.1 → ⊥ = λ q. absurd (omega (arith, low.0)) in
          rw (sides_counted ts e.0 e.1 d, sides_counted ts e.1 e.0 d, joined_sides e ne, lone_sides e ne)
          (lone_side (times_run ts e.0 e.1) (times_run ts e.1 e.0) (T e.0) (T e.1) (once e.0 e.1) (once e.1 e.0) (λ l. side_agrees e.1 e.0 l))
