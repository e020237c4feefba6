-- The listed lines hold each segment once.
use Rattle.std.proofs.Common.{◌≡◌, ℕ, ◌+◌, ◌<◌, ◌≤◌, Bool, true, false, cond, ◌&&◌, List, [], ◌∷◌, ◌++◌, refl, sym, ◌∙◌, ap, subst, ◌⊎◌, inl, inr, arith, eqb, ℤ, length}
use Rattle.std.specs.List.{flat_map, count_by}
use Rattle.std.proofs.lemmas.Bool.{cases_Bool, and_parts, eqb-true, both_ways, cases_lt}
use Rattle.iso_defs.specs.Lists.{below, begins, ends, steps, closing, around, least_of, count_pair}
use Rattle.iso_defs.specs.Grid.{Grid, name_bound}
use Rattle.iso_defs.specs.Contours.{line_from, plane_pairs, lines_of_least, contours, line_pairs}
use Rattle.triangle_laws.proofs.Lists.{In, In-flat_map, in_flat_map}
use Rattle.triangle_laws.proofs.Counts.{Distinct, count-cons, count_none, count_some, count_finds, count_once, eq_pair}
use Rattle.triangle_laws.proofs.FanWalk.{IsSingle, one_next, next_in, begins_from, ends_from, ends_in}
use Rattle.mesh_laws.proofs.Cells.{Distinct-range}
use Rattle.mesh_laws.proofs.Rows.{flat_flat}
use Rattle.plane_laws.specs.Lines.{last_of}
use Rattle.plane_laws.proofs.Walks.{Reached, turned, Told}
use Rattle.plane_laws.proofs.Homes.{Listed, same_head, Home, home, relist, listed_at, active_on, line_told, line_in, start_in, last_turned, trace_cons, least_on}
use Rattle.plane_laws.proofs.Scan.{Found, found, one_of_least, below_in}
use Rattle.plane_laws.proofs.Squares.{single, low}

-- the pairs of a walk, told from its end
abbrev back_pairs : List ℕ → ℕ → List (ℕ × ℕ)
back_pairs [] e = []
back_pairs (p ∷ pre) e = (p, e) ∷ back_pairs pre p

turned_steps : (pre acc : List ℕ) (z : ℕ) (y : ℕ × ℕ) → In y (steps (turned pre (z ∷ acc))) → In y (back_pairs pre z) ⊎ In y (steps (z ∷ acc))
turned_steps [] acc z y i = inr i
turned_steps (p ∷ pre) acc z y i =
    elim (turned_steps pre (z ∷ acc) p y i) [
      | inl j ↦ inl (inr j)
      | inr (inl k) ↦ inl (inl k)
      | inr (inr j) ↦ inr j
    ]

back_steps : (pre acc : List ℕ) (z : ℕ) (y : ℕ × ℕ) → In y (back_pairs pre z) ⊎ In y (steps (z ∷ acc)) → In y (steps (turned pre (z ∷ acc)))
back_steps [] acc z y (inl i) = absurd i
back_steps [] acc z y (inr i) = i
back_steps (p ∷ pre) acc z y (inl (inl k)) = back_steps pre (z ∷ acc) p y (inr (inl k))
back_steps (p ∷ pre) acc z y (inl (inr i)) = back_steps pre (z ∷ acc) p y (inl i)
back_steps (p ∷ pre) acc z y (inr i) = back_steps pre (z ∷ acc) p y (inr (inr i))

reached_pairs : (ps : List (ℕ × ℕ)) (st : ℕ) (pre : List ℕ) (e : ℕ) → Reached ps st pre e → (y : ℕ × ℕ) → In y (back_pairs pre e) → In y ps
reached_pairs ps st [] e r y i = absurd i
reached_pairs ps st (p ∷ pre) e r y (inl k) = subst (λ z. In z ps) (sym k) r.0
reached_pairs ps st (p ∷ pre) e r y (inr i) = reached_pairs ps st pre p r.1 y i

back_from : (pre : List ℕ) (e a : ℕ) → In a pre → (c : ℕ) × In (a, c) (back_pairs pre e)
back_from [] e a i = absurd i
back_from (p ∷ pre) e a (inl k) = (e, inl (ap (λ x. (x, e)) k))
back_from (p ∷ pre) e a (inr i) = let r : (c : ℕ) × In (a, c) (back_pairs pre p) = back_from pre p a i in (r.0, inr r.1)

-- a cycle has the steps of its list, and one from the last to the first
closing_in : (f v : ℕ) (ws : List ℕ) (y : ℕ × ℕ) → In y (closing f v ws) → In y (steps (v ∷ ws)) ⊎ (y ≡ (last_of v ws, f))
closing_in f v [] y (inl k) = inr k
closing_in f v [] y (inr i) = absurd i
closing_in f v (w ∷ ws) y (inl k) = inl (inl k)
closing_in f v (w ∷ ws) y (inr i) = elim (closing_in f w ws y i) [ inl j ↦ inl (inr j) | inr k ↦ inr k ]

in_closing : (f v : ℕ) (ws : List ℕ) (y : ℕ × ℕ) → In y (steps (v ∷ ws)) ⊎ (y ≡ (last_of v ws, f)) → In y (closing f v ws)
in_closing f v [] y (inl i) = absurd i
in_closing f v [] y (inr k) = inl k
in_closing f v (w ∷ ws) y (inl (inl k)) = inl k
in_closing f v (w ∷ ws) y (inl (inr i)) = inr (in_closing f w ws y (inl i))
in_closing f v (w ∷ ws) y (inr k) = inr (in_closing f w ws y (inr k))

-- each number of a list without repetition begins one step at most
step_begins : (w : ℕ) (ws : List ℕ) (y : ℕ × ℕ) → In y (steps (w ∷ ws)) → In y.0 (w ∷ ws)
step_begins w [] y i = absurd i
step_begins w (u ∷ us) y (inl e) = inl (ap (λ (p : ℕ × ℕ). p.0) e)
step_begins w (u ∷ us) y (inr i) = inr (step_begins u us y i)

closing_begins : (f v : ℕ) (ws : List ℕ) (y : ℕ × ℕ) → In y (closing f v ws) → In y.0 (v ∷ ws)
closing_begins f v [] y (inl e) = inl (ap (λ (p : ℕ × ℕ). p.0) e)
closing_begins f v [] y (inr i) = absurd i
closing_begins f v (w ∷ ws) y (inl e) = inl (ap (λ (p : ℕ × ℕ). p.0) e)
closing_begins f v (w ∷ ws) y (inr i) = inr (closing_begins f w ws y i)

module _ (a b : ℕ) where
  abbrev is_pair : ℕ × ℕ → Bool
  is_pair y = eqb y.0 a && eqb y.1 b

  -- one pair before others that begin elsewhere
  one_more : (v w : ℕ) (qs : List (ℕ × ℕ)) → count_by is_pair qs ≤ 1 → ((y : ℕ × ℕ) → In y qs → y.0 ≡ v → ⊥) → count_by is_pair ((v, w) ∷ qs) ≤ 1
  one_more v w qs l h =
      let c : count_by is_pair ((v, w) ∷ qs) ≡ cond (is_pair (v, w)) 1 0 + count_by is_pair qs = count-cons is_pair (v, w) qs in
      elim (cases_Bool (is_pair (v, w))) [
        | inl t ↦ (
            let e : v ≡ a = eqb-true v a (and_parts _ _ t).0 in
            let z : count_by is_pair qs ≡ 0 = count_none is_pair qs (λ y i u. h y i (eqb-true y.0 a (and_parts _ _ u).0 ∙ sym e)) in
            let k : count_by is_pair ((v, w) ∷ qs) ≡ 1 + count_by is_pair qs = c ∙ ap (λ x. cond x 1 0 + count_by is_pair qs) t in
            omega arith)
        | inr t ↦ (let k : count_by is_pair ((v, w) ∷ qs) ≡ 0 + count_by is_pair qs = c ∙ ap (λ x. cond x 1 0 + count_by is_pair qs) t in omega arith)
      ]

  steps_once : (xs : List ℕ) → Distinct xs → count_by is_pair (steps xs) ≤ 1
  steps_once [] d = omega arith
  steps_once (v ∷ []) d = omega arith
  steps_once (v ∷ w ∷ ws) d = one_more v w (steps (w ∷ ws)) (steps_once (w ∷ ws) d.1) (λ y i e. d.0 (subst (λ z. In z (w ∷ ws)) e (step_begins w ws y i)))

  closing_once : (f v : ℕ) (ws : List ℕ) → Distinct (v ∷ ws) → count_by is_pair (closing f v ws) ≤ 1
  closing_once f v [] d = one_more v f [] (omega arith) (λ y i e. i)
  closing_once f v (w ∷ ws) d = one_more v w (closing f w ws) (closing_once f w ws d.1) (λ y i e. d.0 (subst (λ z. In z (w ∷ ws)) e (closing_begins f w ws y i)))

turned_distinct : (pre acc : List ℕ) → Distinct pre → Distinct acc → ((x : ℕ) → In x pre → In x acc → ⊥) → Distinct (turned pre acc)
turned_distinct [] acc d e h = e
turned_distinct (p ∷ pre) acc d e h =
    turned_distinct pre (p ∷ acc) d.1 (h p (inl refl), e)
    (λ x i j. elim j [ inl k ↦ d.0 (subst (λ z. In z pre) k i) | inr k ↦ h x (inr i) k ])

-- what is passed before the end does not lead to the start
goes_on : (ps : List (ℕ × ℕ)) → IsSingle ps → (st : ℕ) (pre : List ℕ) (e : ℕ) → Reached ps st pre e → Distinct (e ∷ pre) → (w : ℕ) → In w pre → In (w, st) ps → ⊥
goes_on ps one st [] e r d w i q = i
goes_on ps one st (p ∷ pre) e r d w (inl k) q =
    let same : e ≡ st = one_next ps one st p e st r.0 (subst (λ z. In (z, st) ps) k q) in
    d.0 (subst (λ z. In z (p ∷ pre)) (sym same) (start_in ps st pre p r.1))
goes_on ps one st (p ∷ pre) e r d w (inr i) q = goes_on ps one st pre p r.1 d.1 w i q

module _ (g : Grid) (ps : List (ℕ × ℕ)) (one : IsSingle ps) (inside : (a b : ℕ) → In (a, b) ps → (a < name_bound g) × (b < name_bound g)) where
  distinct_line : (d : ℕ) → Distinct (line_from ps d)
  distinct_line d =
      let t : Told ps one d (length ps) [] d = line_told ps one d in
      subst Distinct (sym t.whole) (turned_distinct t.left (t.stop ∷ []) t.differ.1 ((λ i. i), tt)
      (λ x i j. elim j [ inl k ↦ t.differ.0 (subst (λ z. In z t.left) k i) | inr z ↦ z ]))

  -- the list of a line as its head and the rest
  last_is : (d : ℕ) (rest : List ℕ) → line_from ps d ≡ d ∷ rest → last_of d rest ≡ (line_told ps one d).stop
  last_is d rest e =
      let t : Told ps one d (length ps) [] d = line_told ps one d in
      ap (last_of d) (sym e) ∙ (ap (last_of d) t.whole ∙ last_turned ps one d t.left t.stop [])

  steps_in : (d : ℕ) (y : ℕ × ℕ) → In y (steps (line_from ps d)) → In y ps
  steps_in d y i =
      let t : Told ps one d (length ps) [] d = line_told ps one d in
      elim (turned_steps t.left [] t.stop y (subst (λ l. In y (steps l)) t.whole i)) [
        | inl j ↦ reached_pairs ps d t.left t.stop t.reached y j
        | inr z ↦ absurd z
      ]

  -- the segments of a listed line are pairs of the list
  pairs_in : (d : ℕ) (l : Bool × List ℕ) → Listed ps one d l → (y : ℕ × ℕ) → In y (line_pairs (ends ps d, line_from ps d)) → In y ps
  pairs_in d l h y i =
      elim (cases_Bool (ends ps d)) [
        | inr n ↦ steps_in d y (subst (λ b. In y (cond b (around (line_from ps d)) (steps (line_from ps d)))) n i)
        | inl e ↦ (
            let j : In y (around (line_from ps d)) = subst (λ b. In y (cond b (around (line_from ps d)) (steps (line_from ps d)))) e i in
            let r : (rest : List ℕ) × (line_from ps d ≡ d ∷ rest) = trace_cons ps one (length ps) d d in
            elim (closing_in d d r.0 y (subst (λ l. In y (around l)) r.1 j)) [
              | inl k ↦ steps_in d y (subst (λ l. In y (steps l)) (sym r.1) k)
              | inr k ↦ (
                  let t : Told ps one d (length ps) [] d = line_told ps one d in
                  let q : y ≡ (t.stop, d) = k ∙ ap (λ z. (z, d)) (last_is d r.0 r.1) in
                  elim t.ended [
                    | inr back ↦ subst (λ z. In z ps) (sym q) back
                    | inl out ↦ absurd (elim h.entered [
                      | inl n ↦ both_ways (ends ps d) n e
                      | inr w ↦ stops d w out
                    ])
                  ])
            ])
      ]
    where
      -- where a pair leads back to the head, the line does not stop before
      stops : (d : ℕ) → ((w : ℕ) × In w (line_from ps d) × In (w, d) ps) → begins ps (line_told ps one d).stop ≡ false → ⊥
      stops d w out =
          let t : Told ps one d (length ps) [] d = line_told ps one d in
          elim (line_in ps one d w.0 w.1) [
            | inl k ↦ both_ways (begins ps t.stop) out (subst (λ z. begins ps z ≡ true) k (begins_from ps w.0 d w.2))
            | inr i ↦ goes_on ps one d t.left t.stop t.reached t.differ w.0 i w.2
          ]

  -- and a pair from an edge of a listed line is one of its segments
  in_pairs : (d : ℕ) (l : Bool × List ℕ) → Listed ps one d l → (a b : ℕ) → In a (line_from ps d) → In (a, b) ps → In (a, b) (line_pairs (ends ps d, line_from ps d))
  in_pairs d l h a b i q =
      let t : Told ps one d (length ps) [] d = line_told ps one d in
      let r : (rest : List ℕ) × (line_from ps d ≡ d ∷ rest) = trace_cons ps one (length ps) d d in
      let by : (c : Bool) → ends ps d ≡ c → In (a, b) (cond c (around (line_from ps d)) (steps (line_from ps d))) → In (a, b) (line_pairs (ends ps d, line_from ps d))
      = λ c e j. subst (λ z. In (a, b) (cond z (around (line_from ps d)) (steps (line_from ps d)))) (sym e) j in
      let whole : In (a, b) (steps (line_from ps d)) → In (a, b) (line_pairs (ends ps d, line_from ps d))
      = λ j. elim (cases_Bool (ends ps d)) [
        | inr n ↦ by false n j
        | inl e ↦ by true e (subst (λ l. In (a, b) (around l)) (sym r.1) (in_closing d d r.0 (a, b) (inl (subst (λ l. In (a, b) (steps l)) r.1 j))))
      ] in
      elim (line_in ps one d a i) [
        | inr j ↦ (
            let c : (c : ℕ) × In (a, c) (back_pairs t.left t.stop) = back_from t.left t.stop a j in
            let e : c.0 ≡ b = one_next ps one d a c.0 b (reached_pairs ps d t.left t.stop t.reached (a, c.0) c.1) q in
            whole (subst (λ l. In (a, b) (steps l)) (sym t.whole) (back_steps t.left [] t.stop (a, b) (inl (subst (λ z. In (a, z) (back_pairs t.left t.stop)) e c.1)))))
        | inl k ↦ (
            let at : In (t.stop, b) ps = subst (λ z. In (z, b) ps) k q in
            elim t.ended [
              | inl n ↦ absurd (both_ways (begins ps t.stop) n (begins_from ps t.stop b at))
              | inr back ↦ (
                  let e : b ≡ d = one_next ps one d t.stop b d at back in
                  let y : (a, b) ≡ (last_of d r.0, d) = ap (λ z. (z, b)) (k ∙ sym (last_is d r.0 r.1)) ∙ ap (λ z. (last_of d r.0, z)) e in
                  by true (ends_from ps t.stop d back) (subst (λ l. In (a, b) (around l)) (sym r.1) (in_closing d d r.0 (a, b) (inr y))))
            ])
      ]

  line_once : (d a b : ℕ) → count_by (is_pair a b) (line_pairs (ends ps d, line_from ps d)) ≤ 1
  line_once d a b =
      let r : (rest : List ℕ) × (line_from ps d ≡ d ∷ rest) = trace_cons ps one (length ps) d d in
      elim (ends ps d) as (λ c. count_by (is_pair a b) (cond c (around (line_from ps d)) (steps (line_from ps d))) ≤ 1) [
        | true ↦ subst (λ l. count_by (is_pair a b) (around l) ≤ 1) (sym r.1) (closing_once a b d d r.0 (subst Distinct r.1 (distinct_line d)))
        | false ↦ steps_once a b (line_from ps d) (distinct_line d)
      ]

  abbrev at_least : ℕ → List (ℕ × ℕ)
  at_least e = flat_map line_pairs (lines_of_least g ps e)

  -- the lines of a least edge are one or none
  one_or_none : (e : ℕ) → (lines_of_least g ps e ≡ [])
      ⊎ ((d : ℕ) × Listed ps one d (ends ps d, line_from ps d) × (least_of (line_from ps d) ≡ e) × (lines_of_least g ps e ≡ (ends ps d, line_from ps d) ∷ []))
  one_or_none e = by_list (lines_of_least g ps e) refl
    where
      by_list : (ls : List (Bool × List ℕ)) → lines_of_least g ps e ≡ ls → (lines_of_least g ps e ≡ [])
          ⊎ ((d : ℕ) × Listed ps one d (ends ps d, line_from ps d) × (least_of (line_from ps d) ≡ e) × (lines_of_least g ps e ≡ (ends ps d, line_from ps d) ∷ []))
      by_list [] h = inl h
      by_list (l ∷ ls) h =
          let f : Found g ps one inside e l = found g ps one inside e l (subst (λ z. In l z) (sym h) (inl refl)) in
          inr (f.head, subst (Listed ps one f.head) f.is.is f.is, f.least, one_of_least g ps one inside e f.head (relist ps one f.head l f.is) f.least)

  only_line : (e d : ℕ) → lines_of_least g ps e ≡ (ends ps d, line_from ps d) ∷ [] → at_least e ≡ line_pairs (ends ps d, line_from ps d)
  only_line e d h = ap (flat_map line_pairs) h ∙ append_nil (line_pairs (ends ps d, line_from ps d))
    where
      append_nil : {A : Type 0} (xs : List A) → xs ++ [] ≡ xs
      append_nil [] = refl
      append_nil (x ∷ xs) = ap (λ l. x ∷ l) (append_nil xs)

  least_once : (e a b : ℕ) → count_by (is_pair a b) (at_least e) ≤ 1
  least_once e a b =
      elim (one_or_none e) [
        | inl h ↦ subst (λ l. count_by (is_pair a b) (flat_map line_pairs l) ≤ 1) (sym h) (omega arith)
        | inr w ↦ subst (λ l. count_by (is_pair a b) l ≤ 1) (sym (only_line e w.0 w.3)) (line_once w.0 a b)
      ]

  -- the line of a pair, from its count
  line_of : (e a b : ℕ) → 0 < count_by (is_pair a b) (at_least e) → (d : ℕ) × Listed ps one d (ends ps d, line_from ps d) × (least_of (line_from ps d) ≡ e) × In (a, b) ps × In a (line_from ps d)
  line_of e a b h =
      elim (one_or_none e) [
        | inl n ↦ absurd (let z : count_by (is_pair a b) (at_least e) ≡ 0 = ap (λ l. count_by (is_pair a b) (flat_map line_pairs l)) n in omega arith)
        | inr w ↦ (
            let r : (y : ℕ × ℕ) × In y (line_pairs (ends ps w.0, line_from ps w.0)) × (is_pair a b y ≡ true)
            = count_finds (is_pair a b) (line_pairs (ends ps w.0, line_from ps w.0)) (subst (λ l. 0 < count_by (is_pair a b) l) (only_line e w.0 w.3) h) in
            let j : In (a, b) (line_pairs (ends ps w.0, line_from ps w.0)) = subst (λ y. In y (line_pairs (ends ps w.0, line_from ps w.0))) (eq_pair r.0 a b r.2) r.1 in
            (w.0, w.1, w.2, pairs_in w.0 (ends ps w.0, line_from ps w.0) w.1 (a, b) j, begins_on w.0 a b j))
      ]
    where
      begins_on : (d a b : ℕ) → In (a, b) (line_pairs (ends ps d, line_from ps d)) → In a (line_from ps d)
      begins_on d a b j =
          let r : (rest : List ℕ) × (line_from ps d ≡ d ∷ rest) = trace_cons ps one (length ps) d d in
          elim (cases_Bool (ends ps d)) [
            | inl e ↦ subst (λ l. In a l) (sym r.1) (closing_begins d d r.0 (a, b)
                (subst (λ l. In (a, b) (around l)) r.1 (subst (λ c. In (a, b) (cond c (around (line_from ps d)) (steps (line_from ps d)))) e j)))
            | inr n ↦ subst (λ l. In a l) (sym r.1) (step_begins d r.0 (a, b)
                (subst (λ l. In (a, b) (steps l)) r.1 (subst (λ c. In (a, b) (cond c (around (line_from ps d)) (steps (line_from ps d)))) n j)))
          ]

  abbrev listed_pairs : List (ℕ × ℕ)
  listed_pairs = flat_map line_pairs (flat_map (lines_of_least g ps) (below (name_bound g)))

  by_least : listed_pairs ≡ flat_map at_least (below (name_bound g))
  by_least = flat_flat line_pairs (lines_of_least g ps) (below (name_bound g))

  pair_once : (a b : ℕ) → count_by (is_pair a b) ps ≤ 1
  pair_once a b =
      let l : count_by (λ (p : ℕ × ℕ). eqb p.0 a) ps ≤ 1 = one.begun a in
      let m : count_by (is_pair a b) ps ≤ count_by (λ (p : ℕ × ℕ). eqb p.0 a) ps = fewer ps in
      omega arith
    where
      fewer : (qs : List (ℕ × ℕ)) → count_by (is_pair a b) qs ≤ count_by (λ (p : ℕ × ℕ). eqb p.0 a) qs
      fewer [] = omega arith
      fewer (q ∷ qs) =
          let c : count_by (is_pair a b) (q ∷ qs) ≡ cond (is_pair a b q) 1 0 + count_by (is_pair a b) qs = count-cons (is_pair a b) q qs in
          let d : count_by (λ (p : ℕ × ℕ). eqb p.0 a) (q ∷ qs) ≡ cond (eqb q.0 a) 1 0 + count_by (λ (p : ℕ × ℕ). eqb p.0 a) qs = count-cons (λ (p : ℕ × ℕ). eqb p.0 a) q qs in
          let e : cond (is_pair a b q) 1 0 ≤ cond (eqb q.0 a) 1 0 = less (eqb q.0 a) (eqb q.1 b) in
          let f : count_by (is_pair a b) qs ≤ count_by (λ (p : ℕ × ℕ). eqb p.0 a) qs = fewer qs in
          omega arith
        where
          less : (x y : Bool) → cond (x && y) 1 0 ≤ cond x 1 0
          less true true = omega arith
          less true false = omega arith
          less false y = omega arith

  -- the lines hold each pair as often as the list
  pub lines_hold_pairs : (a b : ℕ) → count_by (is_pair a b) listed_pairs ≡ count_by (is_pair a b) ps
  lines_hold_pairs a b =
      let m : count_by (is_pair a b) listed_pairs ≡ count_by (is_pair a b) (flat_map at_least (below (name_bound g))) = ap (count_by (is_pair a b)) by_least in
      let upper : count_by (is_pair a b) (flat_map at_least (below (name_bound g))) ≤ 1
      = count_once (is_pair a b) at_least (below (name_bound g)) (Distinct-range 0 (name_bound g)) (λ e i. least_once e a b)
      (λ e f i j h l.
      (let u = line_of e a b h in
      let v = line_of f a b l in
      let same : u.0 ≡ v.0 = same_head ps one u.0 v.0 a (ends ps u.0, line_from ps u.0) (ends ps v.0, line_from ps v.0) u.1 v.1 u.4 v.4 in
      sym u.2 ∙ (ap (λ d. least_of (line_from ps d)) same ∙ v.2))) in
      let once : count_by (is_pair a b) ps ≤ 1 = pair_once a b in
      level _ _ (subst (λ n. n ≤ 1) (sym m) upper) once
      (λ h. (let r : (y : ℕ × ℕ) × In y listed_pairs × (is_pair a b y ≡ true) = count_finds (is_pair a b) listed_pairs h in
      let w : (e : ℕ) × In e (below (name_bound g)) × In r.0 (at_least e) = In-flat_map at_least r.0 (below (name_bound g)) (subst (λ l. In r.0 l) by_least r.1) in
      let u = line_of w.0 a b (count_some (is_pair a b) (at_least w.0) r.0 w.2 r.2) in
      count_some (is_pair a b) ps (a, b) u.3 (subst (λ y. is_pair a b y ≡ true) (eq_pair r.0 a b r.2) r.2)))
      (λ h. (let r : (y : ℕ × ℕ) × In y ps × (is_pair a b y ≡ true) = count_finds (is_pair a b) ps h in
      let q : In (a, b) ps = subst (λ y. In y ps) (eq_pair r.0 a b r.2) r.1 in
      let k : Home ps one a = home ps one a (inl (begins_from ps a b q)) in
      let d : ℕ = k.head in
      let e : ℕ = least_of (line_from ps d) in
      let l : Listed ps one d (ends ps d, line_from ps d) = listed_at ps one d k.at in
      let j : In (a, b) (line_pairs (ends ps d, line_from ps d)) = in_pairs d (ends ps d, line_from ps d) l a b k.holds q in
      let at : lines_of_least g ps e ≡ (ends ps d, line_from ps d) ∷ [] = one_of_least g ps one inside e d k.at refl in
      let bound : e < name_bound g = least_bound d l in
      let i : In (a, b) (flat_map at_least (below (name_bound g)))
      = in_flat_map at_least (a, b) e (below (name_bound g)) (below_in (name_bound g) e bound) (subst (λ z. In (a, b) z) (sym (only_line e d at)) j) in
      count_some (is_pair a b) listed_pairs (a, b) (subst (λ z. In (a, b) z) (sym by_least) i) (subst (λ y. is_pair a b y ≡ true) (eq_pair r.0 a b r.2) r.2)))
    where
      level : (m n : ℕ) → m ≤ 1 → n ≤ 1 → (0 < m → 0 < n) → (0 < n → 0 < m) → m ≡ n
      level m n h k f b = elim (cases_lt 0 m) [
        | inl x ↦ (let y : 0 < n = f x in omega arith)
        | inr x ↦ elim (cases_lt 0 n) [
          | inl z ↦ (let y : 0 < m = b z in omega arith)
          | inr z ↦ omega arith
        ]
      ]

      least_bound : (d : ℕ) → Listed ps one d (ends ps d, line_from ps d) → least_of (line_from ps d) < name_bound g
      least_bound d l =
          elim (active_on ps one d (least_of (line_from ps d)) (ends ps d, line_from ps d) l (least_on ps one d)) [
            | inl h ↦ (inside (least_of (line_from ps d)) _ (next_in ps (least_of (line_from ps d)) h)).0
            | inr h ↦ (let r : (b : ℕ) × In (b, least_of (line_from ps d)) ps = ends_in ps (least_of (line_from ps d)) h in (inside r.0 (least_of (line_from ps d)) r.1).1)
          ]

-- of a plane: each segment stands once in the lines that are listed, and nothing else does
pub segments_once : (g : Grid) (s : ℕ → ℤ) (k a b : ℕ) → 0 < g.nz
    → count_pair (flat_map line_pairs (contours g s k)) (a, b) ≡ count_pair (plane_pairs g s k) (a, b)
segments_once g s k a b deep = lines_hold_pairs g (plane_pairs g s k) (single g s k) (low g s k deep) a b
