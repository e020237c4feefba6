-- Each list of triangles has one verdict.
use Rattle.std.proofs.Common.{◌≡◌, ℕ, zero, suc, ◌+◌, ◌<◌, ◌≤◌, Bool, true, false, cond, List, [], ◌∷◌, ◌++◌, length, refl, sym, ◌∙◌, ap, subst, ◌⊎◌, inl, inr, arith, eqb}
use Rattle.std.specs.List.{AllByRecursion}
use Rattle.std.proofs.lemmas.Bool.{cases_Bool, cases_eq, cases_lt, cases_order, ne_eqb}
use Rattle.iso_defs.specs.Lists.{has_pair}
use Rattle.iso_defs.specs.Cell.{Triangle}
use Rattle.iso_defs.specs.FanWalk.{fan_walk}
use Rattle.iso_defs.specs.Manifold.{HasThreeCorners, IsFan, IsManifold, all_runs, arc_of, arcs, runs, times_run}
use Rattle.iso_defs.specs.Verdict.{IsBefore, IsVerdict, Verdict, border_count, triangle_at}
use Rattle.iso_defs.specs.Verdict.Verdict.{Closed, Border, RepeatedCorner, EdgeTwice, SplitVertex}
use Rattle.triangle_laws.proofs.Lists.{In}
use Rattle.triangle_laws.proofs.Counts.{count_finds, run_in}
use Rattle.triangle_laws.proofs.FanDecided.{fan_decided}

-- what holds of all triangles holds of one
corners_at : (ts : List Triangle) (t : ℕ) → AllByRecursion HasThreeCorners ts → t < length ts → HasThreeCorners (triangle_at ts t)
corners_at [] t all h = absurd (omega arith)
corners_at (x ∷ xs) zero all h = all.0
corners_at (x ∷ xs) (suc t) all h = corners_at xs t all.1 (omega arith)

-- of two numbers that are each the least, neither is less
same_least : {A : Type 0} (P : ℕ → Type 0) (v : ℕ → A) (t u : ℕ) → (P t → ⊥) → ((w : ℕ) → w < t → P w) → (P u → ⊥) → ((w : ℕ) → w < u → P w) → v t ≡ v u
same_least P v t u nt bt nu bu =
    elim (cases_order t u) [
      | inl e ↦ ap v e
      | inr o ↦ elim o [ inl l ↦ absurd (nt (bu t l)) | inr l ↦ absurd (nu (bt u l)) ]
    ]

same_pair : (ts : List Triangle) (a b c d : ℕ) → 2 ≤ times_run ts a b → ((x y : ℕ) → IsBefore (x, y) (a, b) → times_run ts x y ≤ 1)
    → 2 ≤ times_run ts c d → ((x y : ℕ) → IsBefore (x, y) (c, d) → times_run ts x y ≤ 1) → EdgeTwice a b ≡ EdgeTwice c d
same_pair ts a b c d h before_ab k before_cd =
    elim (cases_order a c) [
      | inr (inl l) ↦ absurd (let m : times_run ts a b ≤ 1 = before_cd a b (inl l) in omega arith)
      | inr (inr l) ↦ absurd (let m : times_run ts c d ≤ 1 = before_ab c d (inl l) in omega arith)
      | inl e ↦ elim (cases_order b d) [
        | inl f ↦ ap (λ x. EdgeTwice x b) e ∙ ap (EdgeTwice c) f
        | inr (inl l) ↦ absurd (let m : times_run ts a b ≤ 1 = before_cd a b (inr (e, l)) in omega arith)
        | inr (inr l) ↦ absurd (let m : times_run ts c d ≤ 1 = before_ab c d (inr (sym e, l)) in omega arith)
      ]
    ]

pub verdict_unique : (ts : List Triangle) (v w : Verdict) → IsVerdict ts v → IsVerdict ts w → v ≡ w
verdict_unique ts (RepeatedCorner t) (RepeatedCorner u) h k =
    same_least (λ x. HasThreeCorners (triangle_at ts x)) (λ x. RepeatedCorner x) t u h.1 h.2 k.1 k.2
verdict_unique ts (RepeatedCorner t) (EdgeTwice a b) h k = absurd (h.1 (corners_at ts t k.0 h.0))
verdict_unique ts (RepeatedCorner t) (SplitVertex v) h k = absurd (h.1 (corners_at ts t k.0 h.0))
verdict_unique ts (RepeatedCorner t) (Border n) h k = absurd (h.1 (corners_at ts t k.0.corners h.0))
verdict_unique ts (RepeatedCorner t) Closed h k = absurd (h.1 (corners_at ts t k.0.corners h.0))
verdict_unique ts (EdgeTwice a b) (RepeatedCorner t) h k = absurd (k.1 (corners_at ts t h.0 k.0))
verdict_unique ts (EdgeTwice a b) (EdgeTwice c d) h k = same_pair ts a b c d h.1 h.2 k.1 k.2
verdict_unique ts (EdgeTwice a b) (SplitVertex v) h k = absurd (let l : times_run ts a b ≤ 1 = k.1 a b in let m : 2 ≤ times_run ts a b = h.1 in omega arith)
verdict_unique ts (EdgeTwice a b) (Border n) h k = absurd (let l : times_run ts a b ≤ 1 = k.0.once a b in let m : 2 ≤ times_run ts a b = h.1 in omega arith)
verdict_unique ts (EdgeTwice a b) Closed h k = absurd (let l : times_run ts a b ≤ 1 = k.0.once a b in let m : 2 ≤ times_run ts a b = h.1 in omega arith)
verdict_unique ts (SplitVertex v) (RepeatedCorner t) h k = absurd (k.1 (corners_at ts t h.0 k.0))
verdict_unique ts (SplitVertex v) (EdgeTwice a b) h k = absurd (let l : times_run ts a b ≤ 1 = h.1 a b in let m : 2 ≤ times_run ts a b = k.1 in omega arith)
verdict_unique ts (SplitVertex v) (SplitVertex w) h k = same_least _ (λ x. SplitVertex x) v w h.2 h.3 k.2 k.3
verdict_unique ts (SplitVertex v) (Border n) h k = absurd (h.2 (k.0.fans v))
verdict_unique ts (SplitVertex v) Closed h k = absurd (h.2 (k.0.fans v))
verdict_unique ts (Border n) (RepeatedCorner t) h k = absurd (k.1 (corners_at ts t h.0.corners k.0))
verdict_unique ts (Border n) (EdgeTwice a b) h k = absurd (let l : times_run ts a b ≤ 1 = h.0.once a b in let m : 2 ≤ times_run ts a b = k.1 in omega arith)
verdict_unique ts (Border n) (SplitVertex v) h k = absurd (k.2 (h.0.fans v))
verdict_unique ts (Border m) (Border n) h k = ap (λ x. Border x) (sym h.1 ∙ k.1)
verdict_unique ts (Border m) Closed h k = absurd (let l : border_count ts ≡ m = h.1 in let o : border_count ts ≡ 0 = k.1 in let p : 0 < m = h.2 in omega arith)
verdict_unique ts Closed (RepeatedCorner t) h k = absurd (k.1 (corners_at ts t h.0.corners k.0))
verdict_unique ts Closed (EdgeTwice a b) h k = absurd (let l : times_run ts a b ≤ 1 = h.0.once a b in let m : 2 ≤ times_run ts a b = k.1 in omega arith)
verdict_unique ts Closed (SplitVertex v) h k = absurd (k.2 (h.0.fans v))
verdict_unique ts Closed (Border n) h k = absurd (let l : border_count ts ≡ n = k.1 in let o : border_count ts ≡ 0 = h.1 in let p : 0 < n = k.2 in omega arith)
verdict_unique ts Closed Closed h k = refl

-- three corners, or not
three_or_not : (t : Triangle) → HasThreeCorners t ⊎ ¬ HasThreeCorners t
three_or_not t =
    elim (cases_eq t.0 t.1) [
      | inl e ↦ inr (λ h. h.0 e)
      | inr n0 ↦ elim (cases_eq t.1 t.2) [
        | inl e ↦ inr (λ h. h.1 e)
        | inr n1 ↦ elim (cases_eq t.2 t.0) [ inl e ↦ inr (λ h. h.2 e) | inr n2 ↦ inl (n0, n1, n2) ]
      ]
    ]

-- a first triangle that repeats a corner
abbrev FirstBad : List Triangle → Type 0
FirstBad ts = (t : ℕ) × (t < length ts) × (¬ HasThreeCorners (triangle_at ts t)) × ((u : ℕ) → u < t → HasThreeCorners (triangle_at ts u))

first_bad : (ts : List Triangle) → AllByRecursion HasThreeCorners ts ⊎ FirstBad ts
first_bad [] = inl tt
first_bad (x ∷ xs) =
    elim (three_or_not x) [
      | inr n ↦ inr (0, omega arith, n, (λ u l. absurd (omega arith)))
      | inl h ↦ elim (first_bad xs) [
        | inl all ↦ inl (h, all)
        | inr r ↦ inr (suc r.0, (let l : r.0 < length xs = r.1 in omega arith), r.2, before_next r.0 h r.3)
      ]
    ]
  where
    before_next : (t : ℕ) → HasThreeCorners x → ((u : ℕ) → u < t → HasThreeCorners (triangle_at xs u)) → (u : ℕ) → u < suc t → HasThreeCorners (triangle_at (x ∷ xs) u)
    before_next t h k zero l = h
    before_next t h k (suc u) l = k u (omega arith)

-- the order of pairs
order_pairs : (p q : ℕ × ℕ) → IsBefore p q ⊎ (IsBefore q p ⊎ ((p.0 ≡ q.0) × (p.1 ≡ q.1)))
order_pairs p q =
    elim (cases_order p.0 q.0) [
      | inr (inl l) ↦ inl (inl l)
      | inr (inr l) ↦ inr (inl (inl l))
      | inl e ↦ elim (cases_order p.1 q.1) [
        | inr (inl l) ↦ inl (inr (e, l))
        | inr (inr l) ↦ inr (inl (inr (sym e, l)))
        | inl f ↦ inr (inr (e, f))
      ]
    ]

not_before_itself : (p : ℕ × ℕ) → IsBefore p p → ⊥
not_before_itself p (inl l) = omega arith
not_before_itself p (inr l) = let k : p.1 < p.1 = l.1 in omega arith

before_both : (p q r : ℕ × ℕ) → IsBefore p q → IsBefore q r → IsBefore p r
before_both p q r (inl h) (inl k) = inl (omega arith)
before_both p q r (inl h) (inr k) = inl (let e : q.0 ≡ r.0 = k.0 in omega arith)
before_both p q r (inr h) (inl k) = inl (let e : p.0 ≡ q.0 = h.0 in omega arith)
before_both p q r (inr h) (inr k) = inr (h.0 ∙ k.0, (let l : p.1 < q.1 = h.1 in let m : q.1 < r.1 = k.1 in omega arith))

-- a least pair of the list that is run twice
module _ (ts : List Triangle) where
  abbrev once_at : ℕ × ℕ → Type 0
  once_at p = times_run ts p.0 p.1 ≤ 1

  abbrev LeastTwice : List (ℕ × ℕ) → Type 0
  LeastTwice ps = (p : ℕ × ℕ) × (2 ≤ times_run ts p.0 p.1) × ((q : ℕ × ℕ) → In q ps → IsBefore q p → once_at q)

  least_twice : (ps : List (ℕ × ℕ)) → ((q : ℕ × ℕ) → In q ps → once_at q) ⊎ LeastTwice ps
  least_twice [] = inl (λ q i. absurd i)
  least_twice (x ∷ ps) =
      elim (cases_lt (times_run ts x.0 x.1) 2) [
        | inl l ↦ (
            let one : once_at x = omega arith in
            elim (least_twice ps) [
              | inl all ↦ inl (λ q i. elim i [ inl e ↦ subst once_at (sym e) one | inr j ↦ all q j ])
              | inr r ↦ inr (r.0, r.1, (λ q i b. elim i [ inl e ↦ subst once_at (sym e) one | inr j ↦ r.2 q j b ]))
            ])
        | inr l ↦ elim (least_twice ps) [
          | inl all ↦ inr (x, l, (λ q i b. elim i [ inl e ↦ absurd (not_before_itself x (subst (λ z. IsBefore z x) e b)) | inr j ↦ all q j ]))
          | inr r ↦ elim (order_pairs x r.0) [
            | inl b ↦ inr (
              x,
              l,
              (λ q i c. elim i [
                | inl e ↦ absurd (not_before_itself x (subst (λ z. IsBefore z x) e c))
                | inr j ↦ r.2 q j (before_both q x r.0 c b)
              ]),
            )
            | inr (inl b) ↦ inr (
              r.0,
              r.1,
              (λ q i c. elim i [
                | inl e ↦ absurd (not_before_itself x (before_both x r.0 x (subst (λ z. IsBefore z r.0) e c) b))
                | inr j ↦ r.2 q j c
              ]),
            )
            | inr (inr e) ↦ inr (
              r.0,
              r.1,
              (λ q i c. elim i [
                | inl f ↦ absurd (not_before_itself r.0 (same_before x r.0 e (subst (λ z. IsBefore z r.0) f c)))
                | inr j ↦ r.2 q j c
              ]),
            )
          ]
        ]
      ]
    where
      same_before : (x y : ℕ × ℕ) → (x.0 ≡ y.0) × (x.1 ≡ y.1) → IsBefore x y → IsBefore y y
      same_before x y e (inl l) = inl (let k : x.0 ≡ y.0 = e.0 in omega arith)
      same_before x y e (inr l) = inr (refl, (let k : x.1 ≡ y.1 = e.1 in let m : x.1 < y.1 = l.1 in omega arith))

  -- a pair that is run stands among the runs
  is_run : (a b : ℕ) → 2 ≤ times_run ts a b → In (a, b) (all_runs ts)
  is_run a b h =
      let w : (t : Triangle) × In t ts × (runs a b t ≡ true) = count_finds (runs a b) ts (omega arith) in
      run_in ts w.0 a b w.1 w.2

  pub once_or_twice : ((a b : ℕ) → times_run ts a b ≤ 1)
      ⊎ ((p : ℕ × ℕ) × (2 ≤ times_run ts p.0 p.1) × ((c d : ℕ) → IsBefore (c, d) p → times_run ts c d ≤ 1))
  once_or_twice =
      elim (least_twice (all_runs ts)) [
        | inl all ↦ inl (λ a b. elim (cases_lt (times_run ts a b) 2) [ inl l ↦ omega arith | inr l ↦ all (a, b) (is_run a b l) ])
        | inr r ↦ inr (r.0, r.1, (λ c d before. elim (cases_lt (times_run ts c d) 2) [ inl l ↦ omega arith | inr l ↦ r.2 (c, d) (is_run c d l) before ]))
      ]

-- every vertex is below this number
abbrev vertex_bound : List Triangle → ℕ
vertex_bound [] = 0
vertex_bound (t ∷ ts) = suc (t.0 + t.1 + t.2) + vertex_bound ts

no_arcs : (ts : List Triangle) (v : ℕ) → vertex_bound ts ≤ v → arcs ts v ≡ []
no_arcs [] v h = refl
no_arcs (t ∷ ts) v h =
    let e0 : eqb t.0 v ≡ false = ne_eqb t.0 v (λ e. absurd (omega arith)) in
    let e1 : eqb t.1 v ≡ false = ne_eqb t.1 v (λ e. absurd (omega arith)) in
    let e2 : eqb t.2 v ≡ false = ne_eqb t.2 v (λ e. absurd (omega arith)) in
    let here : arc_of v t ≡ []
    = ap (λ b. cond b ((t.1, t.2) ∷ []) (cond (eqb t.1 v) ((t.2, t.0) ∷ []) (cond (eqb t.2 v) ((t.0, t.1) ∷ []) []))) e0
    ∙ (ap (λ b. cond b ((t.2, t.0) ∷ []) (cond (eqb t.2 v) ((t.0, t.1) ∷ []) [])) e1
    ∙ ap (λ b. cond b ((t.0, t.1) ∷ []) []) e2) in
    ap (λ l. l ++ arcs ts v) here ∙ no_arcs ts v (omega arith)

-- a vertex with no arcs has an empty fan
pub fan_of_none : (ts : List Triangle) (v : ℕ) → arcs ts v ≡ [] → IsFan ts v
fan_of_none ts v e = ([], tt, inl (λ b c. ap (λ l. has_pair l b c) e))

abbrev LeastSplit : List Triangle → Type 0
LeastSplit ts = (v : ℕ) × (¬ IsFan ts v) × ((u : ℕ) → u < v → IsFan ts u)

module _ (ts : List Triangle) (once : (a b : ℕ) → times_run ts a b ≤ 1) where
  -- one fan, or not
  pub fan_or_not : (v : ℕ) → IsFan ts v ⊎ ¬ IsFan ts v
  fan_or_not v =
      let d : (fan_walk (arcs ts v) ≡ true → IsFan ts v) × (IsFan ts v → fan_walk (arcs ts v) ≡ true) = fan_decided ts once v in
      elim (cases_Bool (fan_walk (arcs ts v))) [
        | inl e ↦ inl (d.0 e)
        | inr e ↦ inr (λ h. clash (fan_walk (arcs ts v)) (d.1 h) e)
      ]
    where
      clash : (b : Bool) → b ≡ true → b ≡ false → ⊥
      clash true e f = cc
      clash false e f = cc

  fans_below : (n : ℕ) → ((u : ℕ) → u < n → IsFan ts u) ⊎ LeastSplit ts
  fans_below zero = inl (λ u l. absurd (omega arith))
  fans_below (suc n) =
      elim (fans_below n) [
        | inr r ↦ inr r
        | inl all ↦ elim (fan_or_not n) [
          | inr split ↦ inr (n, split, all)
          | inl fan ↦ inl (λ u l. elim (cases_eq u n) [ inl e ↦ subst (λ z. IsFan ts z) (sym e) fan | inr ne ↦ all u (omega arith) ])
        ]
      ]

  pub fans_or_split : ((v : ℕ) → IsFan ts v) ⊎ LeastSplit ts
  fans_or_split =
      elim (fans_below (vertex_bound ts)) [
        | inr r ↦ inr r
        | inl all ↦ inl (λ v. elim (cases_lt v (vertex_bound ts)) [ inl l ↦ all v l | inr l ↦ fan_of_none ts v (no_arcs ts v l) ])
      ]

-- every list of triangles has a verdict
pub some_verdict : (ts : List Triangle) → (v : Verdict) × IsVerdict ts v
some_verdict ts =
    elim (first_bad ts) [
      | inr r ↦ (RepeatedCorner r.0, (r.1, r.2, r.3))
      | inl corners ↦ elim (once_or_twice ts) [
        | inr r ↦ (EdgeTwice r.0.0 r.0.1, (corners, r.1, r.2))
        | inl once ↦ elim (fans_or_split ts once) [
          | inr r ↦ (SplitVertex r.0, (corners, once, r.1, r.2))
          | inl fans ↦ (
              let surface : IsManifold ts = record { corners = corners; once = once; fans = fans } in
              elim (cases_eq (border_count ts) 0) [
                | inl e ↦ (Closed, (surface, e))
                | inr ne ↦ (Border (border_count ts), (surface, refl, omega arith))
              ])
        ]
      ]
    ]
