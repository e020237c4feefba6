-- The sides of a triangle, and the pairs that it has.
use Rattle.std.proofs.Common.{◌≡◌, ℕ, ◌+◌, Bool, true, false, cond, ◌&&◌, ◌||◌, List, [], ◌∷◌, refl, sym, ◌∙◌, ap, arith, eqb}
use Rattle.std.specs.List.{count_by, AllByRecursion}
use Rattle.std.proofs.lemmas.Bool.{eqb-true}
use Rattle.iso_defs.specs.Cell.{Triangle}
use Rattle.iso_defs.specs.Lists.{count_pair}
use Rattle.iso_defs.specs.Manifold.{HasThreeCorners, runs, runs_of, all_runs, times_run}
use Rattle.triangle_laws.proofs.Counts.{count-cons, count-append}
use Rattle.mesh_report.specs.Report.{has_both}

-- of three different corners, at most one side is the pair
one_side : (x y z a b c : Bool) → (x ≡ true → y ≡ true → ⊥) → (y ≡ true → z ≡ true → ⊥) → (z ≡ true → x ≡ true → ⊥)
    → cond {A = ℕ} (x && b) 1 0 + (cond (y && c) 1 0 + (cond (z && a) 1 0 + 0)) ≡ cond ((x && b) || ((y && c) || (z && a))) 1 0
one_side true true z a b c f g h = absurd (f refl refl)
one_side true false true a b c f g h = absurd (h refl refl)
one_side true false false a true c f g h = refl
one_side true false false a false c f g h = refl
one_side false true true a b c f g h = absurd (g refl refl)
one_side false true false a b true f g h = refl
one_side false true false a b false f g h = refl
one_side false false true true b c f g h = refl
one_side false false true false b c f g h = refl
one_side false false false a b c f g h = refl

-- a triangle has two vertices where it runs from one to the other
both_runs : (x y z a b c : Bool) → (x ≡ true → y ≡ true → ⊥) → (y ≡ true → z ≡ true → ⊥) → (z ≡ true → x ≡ true → ⊥)
    → (x ≡ true → a ≡ true → ⊥) → (y ≡ true → b ≡ true → ⊥) → (z ≡ true → c ≡ true → ⊥)
    → (a ≡ true → b ≡ true → ⊥) → (b ≡ true → c ≡ true → ⊥) → (c ≡ true → a ≡ true → ⊥)
    → cond {A = ℕ} ((x || (y || z)) && (a || (b || c))) 1 0 ≡ cond ((x && b) || ((y && c) || (z && a))) 1 0 + cond ((a && y) || ((b && z) || (c && x))) 1 0
both_runs true true z a b c f g h i j k l m n = absurd (f refl refl)
both_runs true false true a b c f g h i j k l m n = absurd (h refl refl)
both_runs true false false true b c f g h i j k l m n = absurd (i refl refl)
both_runs true false false false true true f g h i j k l m n = absurd (m refl refl)
both_runs true false false false true false f g h i j k l m n = refl
both_runs true false false false false true f g h i j k l m n = refl
both_runs true false false false false false f g h i j k l m n = refl
both_runs false true true a b c f g h i j k l m n = absurd (g refl refl)
both_runs false true false a true c f g h i j k l m n = absurd (j refl refl)
both_runs false true false true false true f g h i j k l m n = absurd (n refl refl)
both_runs false true false true false false f g h i j k l m n = refl
both_runs false true false false false true f g h i j k l m n = refl
both_runs false true false false false false f g h i j k l m n = refl
both_runs false false true a b true f g h i j k l m n = absurd (k refl refl)
both_runs false false true true true false f g h i j k l m n = absurd (l refl refl)
both_runs false false true true false false f g h i j k l m n = refl
both_runs false false true false true false f g h i j k l m n = refl
both_runs false false true false false false f g h i j k l m n = refl
both_runs false false false a b c f g h i j k l m n = none a b c
  where
    none : (a b c : Bool) → ◌≡◌ {A = ℕ} 0 (0 + cond ((a && false) || ((b && false) || (c && false))) 1 0)
    none true true true = refl
    none true true false = refl
    none true false true = refl
    none true false false = refl
    none false true true = refl
    none false true false = refl
    none false false true = refl
    none false false false = refl

module _ (t : Triangle) (d : HasThreeCorners t) where
  apart_first : (a : ℕ) → eqb t.0 a ≡ true → eqb t.1 a ≡ true → ⊥
  apart_first a e f = d.0 (eqb-true t.0 a e ∙ sym (eqb-true t.1 a f))

  apart_second : (a : ℕ) → eqb t.1 a ≡ true → eqb t.2 a ≡ true → ⊥
  apart_second a e f = d.1 (eqb-true t.1 a e ∙ sym (eqb-true t.2 a f))

  apart_third : (a : ℕ) → eqb t.2 a ≡ true → eqb t.0 a ≡ true → ⊥
  apart_third a e f = d.2 (eqb-true t.2 a e ∙ sym (eqb-true t.0 a f))

  side_counted : (a b : ℕ) → count_pair (runs_of t) (a, b) ≡ cond (runs a b t) 1 0
  side_counted a b =
      let P : ℕ × ℕ → Bool = λ (y : ℕ × ℕ). eqb y.0 a && eqb y.1 b in
      let u : count_by P ((t.2, t.0) ∷ []) ≡ cond (eqb t.2 a && eqb t.0 b) 1 0 + 0 = count-cons P (t.2, t.0) [] in
      let v : count_by P ((t.1, t.2) ∷ (t.2, t.0) ∷ []) ≡ cond (eqb t.1 a && eqb t.2 b) 1 0 + count_by P ((t.2, t.0) ∷ []) = count-cons P (t.1, t.2) ((t.2, t.0) ∷ []) in
      let w : count_by P (runs_of t) ≡ cond (eqb t.0 a && eqb t.1 b) 1 0 + count_by P ((t.1, t.2) ∷ (t.2, t.0) ∷ []) = count-cons P (t.0, t.1) ((t.1, t.2) ∷ (t.2, t.0) ∷ []) in
      let s : count_by P (runs_of t) ≡ cond (eqb t.0 a && eqb t.1 b) 1 0 + (cond (eqb t.1 a && eqb t.2 b) 1 0 + (cond (eqb t.2 a && eqb t.0 b) 1 0 + 0)) = omega arith in
      s ∙ one_side (eqb t.0 a) (eqb t.1 a) (eqb t.2 a) (eqb t.0 b) (eqb t.1 b) (eqb t.2 b) (apart_first a) (apart_second a) (apart_third a)

  has_runs : (a b : ℕ) → (a ≡ b → ⊥) → cond {A = ℕ} (has_both a b t) 1 0 ≡ cond (runs a b t) 1 0 + cond (runs b a t) 1 0
  has_runs a b ne =
      both_runs (eqb t.0 a) (eqb t.1 a) (eqb t.2 a) (eqb t.0 b) (eqb t.1 b) (eqb t.2 b)
      (apart_first a) (apart_second a) (apart_third a)
      (λ e f. ne (sym (eqb-true t.0 a e) ∙ eqb-true t.0 b f))
      (λ e f. ne (sym (eqb-true t.1 a e) ∙ eqb-true t.1 b f))
      (λ e f. ne (sym (eqb-true t.2 a e) ∙ eqb-true t.2 b f))
      (apart_first b) (apart_second b) (apart_third b)

-- a pair stands among the sides as often as triangles run it
pub sides_counted : (ts : List Triangle) (a b : ℕ) → AllByRecursion HasThreeCorners ts → count_pair (all_runs ts) (a, b) ≡ times_run ts a b
sides_counted [] a b d = refl
sides_counted (t ∷ ts) a b d =
    let P : ℕ × ℕ → Bool = λ (y : ℕ × ℕ). eqb y.0 a && eqb y.1 b in
    count-append P (runs_of t) (all_runs ts)
    ∙ (ap (λ k. k + count_by P (all_runs ts)) (side_counted t d.0 a b)
    ∙ (ap (λ k. cond (runs a b t) 1 0 + k) (sides_counted ts a b d.1) ∙ sym (count-cons (runs a b) t ts)))

-- the triangles of an edge are those that run it one way and those that run it the other
pub edge_sides : (a b : ℕ) → (a ≡ b → ⊥) → (ts : List Triangle) → AllByRecursion HasThreeCorners ts → count_by (has_both a b) ts ≡ times_run ts a b + times_run ts b a
edge_sides a b ne [] d = refl
edge_sides a b ne (t ∷ ts) d =
    let h : count_by (has_both a b) (t ∷ ts) ≡ cond (has_both a b t) 1 0 + count_by (has_both a b) ts = count-cons (has_both a b) t ts in
    let x : times_run (t ∷ ts) a b ≡ cond (runs a b t) 1 0 + times_run ts a b = count-cons (runs a b) t ts in
    let y : times_run (t ∷ ts) b a ≡ cond (runs b a t) 1 0 + times_run ts b a = count-cons (runs b a) t ts in
    let e : cond {A = ℕ} (has_both a b t) 1 0 ≡ cond (runs a b t) 1 0 + cond (runs b a t) 1 0 = has_runs t d.0 a b ne in
    let r : count_by (has_both a b) ts ≡ times_run ts a b + times_run ts b a = edge_sides a b ne ts d.1 in
    omega arith
