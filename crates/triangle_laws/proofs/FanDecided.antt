-- The walk takes all arcs where they are one path or one cycle, and only there.
use Rattle.std.proofs.Common.{◌≡◌, ℕ, suc, ◌+◌, ◌≤◌, Bool, true, false, cond, ◌&&◌, ◌||◌, not, List, [], ◌∷◌, ◌++◌, map, length, refl, sym, ◌∙◌, ap, subst, ◌⊎◌, inl, inr, arith, eqb, leb, append_assoc, add-zero}
use Rattle.std.specs.List.{count_by}
use Rattle.std.proofs.lemmas.Bool.{and_from, cases_Bool, eqb-true, eq-eqb, ne_eqb, or_right, or_left}
use Rattle.iso_defs.specs.Lists.{IsDistinct, has_pair, steps, around, closing, begins, ends, least_of}
use Rattle.iso_defs.specs.Cell.{next_of, Triangle}
use Rattle.iso_defs.specs.Manifold.{runs, times_run, arc_of, arcs, IsFan}
use Rattle.iso_defs.specs.FanWalk.{walked, IsFanStart, fan_start, fan_walk, loose_starts}
use Rattle.triangle_laws.proofs.Lists.{In, In-append, In-left, In-right, In-map, in_map, In-filter, in_filter, any_in}
use Rattle.triangle_laws.proofs.Counts.{count-cons, count-append, pair_in, in_pair}
use Rattle.triangle_laws.proofs.Fans.{FanOf, in_is_in, distinct_join}
use Rattle.triangle_laws.proofs.FanWalk.{to_distinct, no_longer, IsSingle, distinct_values, next_is, next_in, walk_back, walk_on, begins_from, ends_from, ends_in, walk_fan}

-- what begins and what ends a step
step_ends : (w : ℕ) (ws : List ℕ) (y : ℕ × ℕ) → In y (steps (w ∷ ws)) → In y.0 (w ∷ ws) × In y.1 ws
step_ends w [] y i = absurd i
step_ends w (u ∷ us) y (inl e) = (inl (ap (λ (p : ℕ × ℕ). p.0) e), inl (ap (λ (p : ℕ × ℕ). p.1) e))
step_ends w (u ∷ us) y (inr i) = let r : In y.0 (u ∷ us) × In y.1 us = step_ends u us y i in (inr r.0, inr r.1)

first_or_ended : (w : ℕ) (ws : List ℕ) (y : ℕ × ℕ) → In y (steps (w ∷ ws)) → (y.0 ≡ w) ⊎ ((c : ℕ) × In (c, y.0) (steps (w ∷ ws)))
first_or_ended w [] y i = absurd i
first_or_ended w (u ∷ us) y (inl e) = inl (ap (λ (p : ℕ × ℕ). p.0) e)
first_or_ended w (u ∷ us) y (inr i) =
    elim (first_or_ended u us y i) [
      | inl e ↦ inr (w, inl (ap (λ z. (w, z)) e))
      | inr c ↦ inr (c.0, inr c.1)
    ]

step_to : (w : ℕ) (ws : List ℕ) (b : ℕ) → In b ws → (a : ℕ) × In (a, b) (steps (w ∷ ws))
step_to w [] b i = absurd i
step_to w (u ∷ us) b (inl e) = (w, inl (ap (λ z. (w, z)) e))
step_to w (u ∷ us) b (inr i) = let r : (a : ℕ) × In (a, b) (steps (u ∷ us)) = step_to u us b i in (r.0, inr r.1)

closing_begins : (f v : ℕ) (ws : List ℕ) (y : ℕ × ℕ) → In y (closing f v ws) → In y.0 (v ∷ ws)
closing_begins f v [] y (inl e) = inl (ap (λ (p : ℕ × ℕ). p.0) e)
closing_begins f v [] y (inr i) = absurd i
closing_begins f v (w ∷ ws) y (inl e) = inl (ap (λ (p : ℕ × ℕ). p.0) e)
closing_begins f v (w ∷ ws) y (inr i) = inr (closing_begins f w ws y i)

closing_from : (f v : ℕ) (ws : List ℕ) (a : ℕ) → In a (v ∷ ws) → (b : ℕ) × In (a, b) (closing f v ws)
closing_from f v [] a (inl e) = (f, inl (ap (λ z. (z, f)) e))
closing_from f v [] a (inr i) = absurd i
closing_from f v (w ∷ ws) a (inl e) = (w, inl (ap (λ z. (z, w)) e))
closing_from f v (w ∷ ws) a (inr i) = let r : (b : ℕ) × In (a, b) (closing f w ws) = closing_from f w ws a i in (r.0, inr r.1)

-- a cycle from another of its vertices
closing_more : (f v u : ℕ) (us : List ℕ) → closing f u (us ++ v ∷ []) ≡ closing v u us ++ (v, f) ∷ []
closing_more f v u [] = refl
closing_more f v u (w ∷ us) = ap (λ l. (u, w) ∷ l) (closing_more f v w us)

one_on_to : (v : ℕ) (vs : List ℕ) (y : ℕ × ℕ) → In y (around (v ∷ vs)) → In y (around (vs ++ v ∷ []))
one_on_to v [] y i = i
one_on_to v (u ∷ us) y (inl e) = subst (λ l. In y l) (sym (closing_more u v u us)) (In-right y (closing v u us) ((v, u) ∷ []) (inl e))
one_on_to v (u ∷ us) y (inr i) = subst (λ l. In y l) (sym (closing_more u v u us)) (In-left y (closing v u us) ((v, u) ∷ []) i)

one_on_from : (v : ℕ) (vs : List ℕ) (y : ℕ × ℕ) → In y (around (vs ++ v ∷ [])) → In y (around (v ∷ vs))
one_on_from v [] y i = i
one_on_from v (u ∷ us) y i =
    elim (In-append y (closing v u us) ((v, u) ∷ []) (subst (λ l. In y l) (closing_more u v u us) i)) [
      | inl j ↦ inr j
      | inr (inl e) ↦ inl e
      | inr (inr z) ↦ absurd z
    ]

-- a cycle told from another of its vertices
record Turned (ws : List ℕ) (st : ℕ) : Type 0 where
  rest : List ℕ
  differ : IsDistinct (st ∷ rest)
  to : (y : ℕ × ℕ) → In y (around ws) → In y (around (st ∷ rest))
  from : (y : ℕ × ℕ) → In y (around (st ∷ rest)) → In y (around ws)

turn_to : (st : ℕ) (xs ys : List ℕ) → IsDistinct (xs ++ st ∷ ys) → Turned (xs ++ st ∷ ys) st
turn_to st [] ys d = record { rest = ys; differ = d; to = λ y i. i; from = λ y i. i }
turn_to st (x ∷ xs) ys d =
    let moved : (xs ++ st ∷ ys) ++ x ∷ [] ≡ xs ++ st ∷ (ys ++ x ∷ []) = append_assoc xs (st ∷ ys) (x ∷ []) in
    let apart : IsDistinct ((xs ++ st ∷ ys) ++ x ∷ [])
    = distinct_join (xs ++ st ∷ ys) (x ∷ []) d.1 ((λ i. in_is_in x [] i), tt)
    (λ z i j. elim j [
      | inl e ↦ d.0 (any_in (λ y. eqb y x) (xs ++ st ∷ ys) z i (eq-eqb z x e))
      | inr k ↦ k
    ]) in
    let r : Turned (xs ++ st ∷ (ys ++ x ∷ [])) st = turn_to st xs (ys ++ x ∷ []) (subst IsDistinct moved apart) in
    record {
      rest = r.rest;
      differ = r.differ;
      to = λ y i. r.to y (subst (λ l. In y (around l)) moved (one_on_to x (xs ++ st ∷ ys) y i));
      from = λ y i. one_on_from x (xs ++ st ∷ ys) y (subst (λ l. In y (around l)) (sym moved) (r.from y i));
    }

split_at : (x : ℕ) (ws : List ℕ) → In x ws → (xs : List ℕ) × (ys : List ℕ) × (ws ≡ xs ++ x ∷ ys)
split_at x [] i = absurd i
split_at x (w ∷ ws) (inl e) = ([], ws, ap (λ z. z ∷ ws) (sym e))
split_at x (w ∷ ws) (inr i) = let r : (xs : List ℕ) × (ys : List ℕ) × (ws ≡ xs ++ x ∷ ys) = split_at x ws i in (w ∷ r.0, r.1, ap (λ l. w ∷ l) r.2)

module _ (ps : List (ℕ × ℕ)) (single : IsSingle ps) (st : ℕ) where
  -- along a path, and along a cycle, the walk takes every pair
  path_walk : (e : ℕ) (rest : List ℕ) → ((y : ℕ × ℕ) → In y (steps (e ∷ rest)) → In y ps) → (In st rest → ⊥)
      → length (walked ps (length rest) st e) ≡ length rest
  path_walk e [] h out = refl
  path_walk e (u ∷ us) h out =
      let i : In (e, u) ps = h (e, u) (inl refl) in
      let n : next_of ps e ≡ u = next_is ps single st e u i in
      let on : walked ps (suc (length us)) st e ≡ e ∷ walked ps (length us) st (next_of ps e)
      = walk_on ps single st (length us) e (begins_from ps e u i) (λ k. out (inl (sym k ∙ n))) in
      ap (λ (l : List ℕ). length l) on
      ∙ ap suc (ap (λ z. length (walked ps (length us) st z)) n ∙ path_walk u us (λ y j. h y (inr j)) (λ j. out (inr j)))

  cycle_walk : (e : ℕ) (rest : List ℕ) → ((y : ℕ × ℕ) → In y (closing st e rest) → In y ps) → (In st rest → ⊥)
      → length (walked ps (suc (length rest)) st e) ≡ suc (length rest)
  cycle_walk e [] h out =
      let i : In (e, st) ps = h (e, st) (inl refl) in
      ap (λ (l : List ℕ). length l) (walk_back ps single st 0 e (begins_from ps e st i) (next_is ps single st e st i))
  cycle_walk e (u ∷ us) h out =
      let i : In (e, u) ps = h (e, u) (inl refl) in
      let n : next_of ps e ≡ u = next_is ps single st e u i in
      let on : walked ps (suc (suc (length us))) st e ≡ e ∷ walked ps (suc (length us)) st (next_of ps e)
      = walk_on ps single st (suc (length us)) e (begins_from ps e u i) (λ k. out (inl (sym k ∙ n))) in
      ap (λ (l : List ℕ). length l) on
      ∙ ap suc (ap (λ z. length (walked ps (suc (length us)) st z)) n ∙ cycle_walk u us (λ y j. h y (inr j)) (λ j. out (inr j)))

  pairs_to : (qs : List (ℕ × ℕ)) → ((b c : ℕ) → has_pair ps b c ≡ has_pair qs b c) → (y : ℕ × ℕ) → In y ps → In y qs
  pairs_to qs h y i = pair_in qs y.0 y.1 (sym (h y.0 y.1) ∙ in_pair ps y.0 y.1 i)

  pairs_from : (qs : List (ℕ × ℕ)) → ((b c : ℕ) → has_pair ps b c ≡ has_pair qs b c) → (y : ℕ × ℕ) → In y qs → In y ps
  pairs_from qs h y i = pair_in ps y.0 y.1 (h y.0 y.1 ∙ in_pair qs y.0 y.1 i)

  length_map : (f : ℕ × ℕ → ℕ) (qs : List (ℕ × ℕ)) → length (map f qs) ≡ length qs
  length_map f [] = refl
  length_map f (q ∷ qs) = ap suc (length_map f qs)

  clash : (b : Bool) → b ≡ true → b ≡ false → ⊥
  clash true e f = cc
  clash false e f = cc

  -- as many pairs as a path has steps
  path_size : (w : ℕ) (ws : List ℕ) → IsDistinct (w ∷ ws) → ((y : ℕ × ℕ) → In y ps → In y (steps (w ∷ ws)))
      → ((y : ℕ × ℕ) → In y (steps (w ∷ ws)) → In y ps) → length ps ≡ length ws
  path_size w ws d to from =
      let second : ℕ × ℕ → ℕ = λ (p : ℕ × ℕ). p.1 in
      let lasts : List ℕ = map second ps in
      let a : length lasts ≤ length ws = no_longer lasts ws (distinct_values second ps single.ended)
      (λ x i. (let p : (p : ℕ × ℕ) × In p ps × (x ≡ p.1) = In-map second x ps i in
      subst (λ z. In z ws) (sym p.2) (step_ends w ws p.0 (to p.0 p.1)).1)) in
      let b : length ws ≤ length lasts = no_longer ws lasts (to_distinct ws d.1)
      (λ x i. (let s : (a : ℕ) × In (a, x) (steps (w ∷ ws)) = step_to w ws x i in in_map second (s.0, x) ps (from (s.0, x) s.1))) in
      let c : length lasts ≡ length ps = length_map second ps in
      omega arith

  cycle_size : (ws : List ℕ) → IsDistinct (st ∷ ws) → ((y : ℕ × ℕ) → In y ps → In y (closing st st ws))
      → ((y : ℕ × ℕ) → In y (closing st st ws) → In y ps) → length ps ≡ suc (length ws)
  cycle_size ws d to from =
      let head : ℕ × ℕ → ℕ = λ (p : ℕ × ℕ). p.0 in
      let heads : List ℕ = map head ps in
      let a : length heads ≤ suc (length ws) = no_longer heads (st ∷ ws) (distinct_values head ps single.begun)
      (λ x i. (let p : (p : ℕ × ℕ) × In p ps × (x ≡ p.0) = In-map head x ps i in
      subst (λ z. In z (st ∷ ws)) (sym p.2) (closing_begins st st ws p.0 (to p.0 p.1)))) in
      let b : suc (length ws) ≤ length heads = no_longer (st ∷ ws) heads (to_distinct (st ∷ ws) d)
      (λ x i. (let s : (b : ℕ) × In (x, b) (closing st st ws) = closing_from st st ws x i in in_map head (x, s.0) ps (from (x, s.0) s.1))) in
      let c : length heads ≡ length ps = length_map head ps in
      omega arith

  begun_in : begins ps st ≡ true → In (st, next_of ps st) ps
  begun_in h = next_in ps st h

  pub fan_walked : FanOf ps → IsFanStart ps st → length (walked ps (length ps) st st) ≡ length ps
  fan_walked (ws, d, inl h) start = path ws d h
    where
      path : (ws : List ℕ) → IsDistinct ws → ((b c : ℕ) → has_pair ps b c ≡ has_pair (steps ws) b c) → length (walked ps (length ps) st st) ≡ length ps
      path [] d h = absurd (pairs_to (steps []) h (st, next_of ps st) (begun_in start.0))
      path (w ∷ ws) d h =
          let to : (y : ℕ × ℕ) → In y ps → In y (steps (w ∷ ws)) = pairs_to (steps (w ∷ ws)) h in
          let from : (y : ℕ × ℕ) → In y (steps (w ∷ ws)) → In y ps = pairs_from (steps (w ∷ ws)) h in
          let here : In (st, next_of ps st) (steps (w ∷ ws)) = to (st, next_of ps st) (begun_in start.0) in
          let never : (c : ℕ) → In (c, w) (steps (w ∷ ws)) → ⊥ = λ c i. (to_distinct (w ∷ ws) d).0 (step_ends w ws (c, w) i).1 in
          let first : st ≡ w = elim (first_or_ended w ws (st, next_of ps st) here) [
            | inl e ↦ e
            | inr c ↦ elim start.1 [
              | inl e ↦ absurd (clash (ends ps st) (ends_from ps c.0 st (from (c.0, st) c.1)) e)
              | inr all ↦ (
                  let b : (b : ℕ) × In (w, b) (steps (w ∷ ws)) = begun w ws (st, next_of ps st) here in
                  let e : (a : ℕ) × In (a, w) ps = ends_in ps w (all w (begins_from ps w b.0 (from (w, b.0) b.1))) in
                  absurd (never e.0 (to (e.0, w) e.1)))
            ]
          ] in
          let size : length ps ≡ length ws = path_size w ws d to from in
          ap (λ n. length (walked ps n st st)) size
          ∙ (ap (λ z. length (walked ps (length ws) st z)) first
          ∙ (path_walk w ws from (λ i. (to_distinct (w ∷ ws) d).0 (subst (λ z. In z ws) first i)) ∙ sym size))
        where
          begun : (w : ℕ) (ws : List ℕ) (y : ℕ × ℕ) → In y (steps (w ∷ ws)) → (b : ℕ) × In (w, b) (steps (w ∷ ws))
          begun w [] y i = absurd i
          begun w (u ∷ us) y i = (u, inl refl)
  fan_walked (ws, d, inr h) start = cycle ws d h
    where
      cycle : (ws : List ℕ) → IsDistinct ws → ((b c : ℕ) → has_pair ps b c ≡ has_pair (around ws) b c) → length (walked ps (length ps) st st) ≡ length ps
      cycle [] d h = absurd (pairs_to (around []) h (st, next_of ps st) (begun_in start.0))
      cycle (w ∷ ws) d h =
          let here : In (st, next_of ps st) (closing w w ws) = pairs_to (around (w ∷ ws)) h (st, next_of ps st) (begun_in start.0) in
          let s : (xs : List ℕ) × (ys : List ℕ) × (w ∷ ws ≡ xs ++ st ∷ ys) = split_at st (w ∷ ws) (closing_begins w w ws (st, next_of ps st) here) in
          let t : Turned (s.0 ++ st ∷ s.1) st = turn_to st s.0 s.1 (subst IsDistinct s.2 d) in
          let to : (y : ℕ × ℕ) → In y ps → In y (closing st st t.rest)
          = λ y i. t.to y (subst (λ l. In y (around l)) s.2 (pairs_to (around (w ∷ ws)) h y i)) in
          let from : (y : ℕ × ℕ) → In y (closing st st t.rest) → In y ps
          = λ y i. pairs_from (around (w ∷ ws)) h y (subst (λ l. In y (around l)) (sym s.2) (t.from y i)) in
          let size : length ps ≡ suc (length t.rest) = cycle_size t.rest t.differ to from in
          ap (λ n. length (walked ps n st st)) size
          ∙ (cycle_walk st t.rest from (to_distinct (st ∷ t.rest) t.differ).0 ∙ sym size)

-- the start of the walk
least_in : (x : ℕ) (xs : List ℕ) → In (least_of (x ∷ xs)) (x ∷ xs)
least_in x [] = inl refl
least_in x (y ∷ ys) =
    elim (leb x (least_of (y ∷ ys))) as (λ b. In (cond b x (least_of (y ∷ ys))) (x ∷ y ∷ ys)) [ true ↦ inl refl | false ↦ inr (least_in y ys) ]

begins_in : (ps : List (ℕ × ℕ)) (x : ℕ) → In x (map (λ (p : ℕ × ℕ). p.0) ps) → begins ps x ≡ true
begins_in ps x i =
    let r : (p : ℕ × ℕ) × In p ps × (x ≡ p.0) = In-map (λ (p : ℕ × ℕ). p.0) x ps i in
    any_in (λ (p : ℕ × ℕ). eqb p.0 x) ps r.0 r.1 (eq-eqb r.0.0 x (sym r.2))

start_by : (p : ℕ × ℕ) (ps : List (ℕ × ℕ)) (ls : List ℕ) → loose_starts (p ∷ ps) ≡ ls → IsFanStart (p ∷ ps) (fan_start (p ∷ ps))
start_by p ps [] e =
    let firsts : List ℕ = map (λ (p : ℕ × ℕ). p.0) (p ∷ ps) in
    let s : fan_start (p ∷ ps) ≡ least_of firsts = ap (λ (l : List ℕ). least_of (cond (eqb (length l) 0) firsts l)) e in
    let all : (w : ℕ) → begins (p ∷ ps) w ≡ true → ends (p ∷ ps) w ≡ true
    = λ w b. elim (cases_Bool (ends (p ∷ ps) w)) [
      | inl k ↦ k
      | inr k ↦ absurd (subst (λ l. In w l) e (in_filter (λ e. not (ends (p ∷ ps) e)) w firsts
          (in_map (λ (p : ℕ × ℕ). p.0) (w, next_of (p ∷ ps) w) (p ∷ ps) (next_in (p ∷ ps) w b)) (ap not k)))
    ] in
    subst (IsFanStart (p ∷ ps)) (sym s) (begins_in (p ∷ ps) (least_of firsts) (least_in p.0 (map (λ (p : ℕ × ℕ). p.0) ps)), inr all)
start_by p ps (l ∷ ls) e =
    let firsts : List ℕ = map (λ (p : ℕ × ℕ). p.0) (p ∷ ps) in
    let some : eqb (length (l ∷ ls)) 0 ≡ false = ne_eqb (length (l ∷ ls)) 0 (λ k. absurd (let z : suc (length ls) ≡ 0 = k in omega arith)) in
    let s : fan_start (p ∷ ps) ≡ least_of (l ∷ ls)
    = ap (λ (l : List ℕ). least_of (cond (eqb (length l) 0) firsts l)) e ∙ ap (λ b. least_of (cond b firsts (l ∷ ls))) some in
    let i : In (least_of (l ∷ ls)) (loose_starts (p ∷ ps)) = subst (λ k. In (least_of (l ∷ ls)) k) (sym e) (least_in l ls) in
    let f : In (least_of (l ∷ ls)) firsts × (not (ends (p ∷ ps) (least_of (l ∷ ls))) ≡ true)
    = In-filter (λ e. not (ends (p ∷ ps) e)) (least_of (l ∷ ls)) firsts i in
    subst (IsFanStart (p ∷ ps)) (sym s) (begins_in (p ∷ ps) (least_of (l ∷ ls)) f.0, inl (not_true (ends (p ∷ ps) (least_of (l ∷ ls))) f.1))
  where
    not_true : (b : Bool) → not b ≡ true → b ≡ false
    not_true true e = absurd (cc)
    not_true false e = refl

pub start_is : (p : ℕ × ℕ) (ps : List (ℕ × ℕ)) → IsFanStart (p ∷ ps) (fan_start (p ∷ ps))
start_is p ps = start_by p ps (loose_starts (p ∷ ps)) refl

-- the walk decides
pub pairs_decided : (ps : List (ℕ × ℕ)) → IsSingle ps → (fan_walk ps ≡ true → FanOf ps) × (FanOf ps → fan_walk ps ≡ true)
pairs_decided [] single = ((λ h. ([], tt, inl (λ b c. refl))), (λ h. refl))
pairs_decided (p ∷ ps) single = (
  (λ h. walk_fan (p ∷ ps) single (fan_start (p ∷ ps)) (length ps) refl (eqb-true _ _ h)),
  (λ h. eq-eqb _ _ (fan_walked (p ∷ ps) single (fan_start (p ∷ ps)) h (start_is p ps))),
)

-- each triangle that has v runs from v to the first end of its arc, and from the last end to v
one_count : (f : ℕ × ℕ → Bool) (y : ℕ × ℕ) → count_by f (y ∷ []) ≡ cond (f y) 1 0
one_count f y = count-cons f y [] ∙ add-zero (cond (f y) 1 0)

at_most : (p q : Bool) → (p ≡ true → q ≡ true) → cond {A = ℕ} p 1 0 ≤ cond {A = ℕ} q 1 0
at_most true true h = omega arith
at_most true false h = absurd (let e : false ≡ true = h refl in cc)
at_most false true h = omega arith
at_most false false h = omega arith

arc_begins : (b : ℕ) (x y z : Bool) (t : Triangle) →
    count_by (λ (p : ℕ × ℕ). eqb p.0 b) (cond x ((t.1, t.2) ∷ []) (cond y ((t.2, t.0) ∷ []) (cond z ((t.0, t.1) ∷ []) [])))
    ≤ cond {A = ℕ} ((x && eqb t.1 b) || ((y && eqb t.2 b) || (z && eqb t.0 b))) 1 0
arc_begins b true y z t =
    subst (λ n. n ≤ cond {A = ℕ} (eqb t.1 b || ((y && eqb t.2 b) || (z && eqb t.0 b))) 1 0) (sym (one_count (λ (p : ℕ × ℕ). eqb p.0 b) (t.1, t.2)))
    (at_most (eqb t.1 b) (eqb t.1 b || ((y && eqb t.2 b) || (z && eqb t.0 b))) (or_left (eqb t.1 b) ((y && eqb t.2 b) || (z && eqb t.0 b))))
arc_begins b false true z t =
    subst (λ n. n ≤ cond {A = ℕ} (eqb t.2 b || (z && eqb t.0 b)) 1 0) (sym (one_count (λ (p : ℕ × ℕ). eqb p.0 b) (t.2, t.0)))
    (at_most (eqb t.2 b) (eqb t.2 b || (z && eqb t.0 b)) (or_left (eqb t.2 b) (z && eqb t.0 b)))
arc_begins b false false true t =
    subst (λ n. n ≤ cond {A = ℕ} (eqb t.0 b) 1 0) (sym (one_count (λ (p : ℕ × ℕ). eqb p.0 b) (t.0, t.1))) (at_most (eqb t.0 b) (eqb t.0 b) (λ h. h))
arc_begins b false false false t = omega arith

arc_ends : (c : ℕ) (x y z : Bool) (t : Triangle) →
    count_by (λ (p : ℕ × ℕ). eqb p.1 c) (cond x ((t.1, t.2) ∷ []) (cond y ((t.2, t.0) ∷ []) (cond z ((t.0, t.1) ∷ []) [])))
    ≤ cond {A = ℕ} ((eqb t.0 c && y) || ((eqb t.1 c && z) || (eqb t.2 c && x))) 1 0
arc_ends c true y z t =
    subst (λ n. n ≤ cond {A = ℕ} ((eqb t.0 c && y) || ((eqb t.1 c && z) || (eqb t.2 c && true))) 1 0) (sym (one_count (λ (p : ℕ × ℕ). eqb p.1 c) (t.1, t.2)))
    (at_most (eqb t.2 c) ((eqb t.0 c && y) || ((eqb t.1 c && z) || (eqb t.2 c && true)))
    (λ h. or_right (eqb t.0 c && y) _ (or_right (eqb t.1 c && z) _ (and_from _ _ h refl))))
arc_ends c false true z t =
    subst (λ n. n ≤ cond {A = ℕ} ((eqb t.0 c && true) || ((eqb t.1 c && z) || (eqb t.2 c && false))) 1 0) (sym (one_count (λ (p : ℕ × ℕ). eqb p.1 c) (t.2, t.0)))
    (at_most (eqb t.0 c) ((eqb t.0 c && true) || ((eqb t.1 c && z) || (eqb t.2 c && false))) (λ h. or_left (eqb t.0 c && true) _ (and_from _ _ h refl)))
arc_ends c false false true t =
    subst (λ n. n ≤ cond {A = ℕ} ((eqb t.0 c && false) || ((eqb t.1 c && true) || (eqb t.2 c && false))) 1 0) (sym (one_count (λ (p : ℕ × ℕ). eqb p.1 c) (t.0, t.1)))
    (at_most (eqb t.1 c) ((eqb t.0 c && false) || ((eqb t.1 c && true) || (eqb t.2 c && false)))
    (λ h. or_right (eqb t.0 c && false) _ (or_left (eqb t.1 c && true) _ (and_from _ _ h refl))))
arc_ends c false false false t = omega arith

pub arcs_begin : (ts : List Triangle) (v b : ℕ) → count_by (λ (p : ℕ × ℕ). eqb p.0 b) (arcs ts v) ≤ times_run ts v b
arcs_begin [] v b = omega arith
arcs_begin (t ∷ ts) v b =
    let f : ℕ × ℕ → Bool = λ (p : ℕ × ℕ). eqb p.0 b in
    let k : count_by f (arcs (t ∷ ts) v) ≡ count_by f (arc_of v t) + count_by f (arcs ts v) = count-append f (arc_of v t) (arcs ts v) in
    let l : times_run (t ∷ ts) v b ≡ cond (runs v b t) 1 0 + times_run ts v b = count-cons (runs v b) t ts in
    let m : count_by f (arc_of v t) ≤ cond (runs v b t) 1 0 = arc_begins b (eqb t.0 v) (eqb t.1 v) (eqb t.2 v) t in
    let n : count_by f (arcs ts v) ≤ times_run ts v b = arcs_begin ts v b in
    omega arith

pub arcs_end : (ts : List Triangle) (v c : ℕ) → count_by (λ (p : ℕ × ℕ). eqb p.1 c) (arcs ts v) ≤ times_run ts c v
arcs_end [] v c = omega arith
arcs_end (t ∷ ts) v c =
    let f : ℕ × ℕ → Bool = λ (p : ℕ × ℕ). eqb p.1 c in
    let k : count_by f (arcs (t ∷ ts) v) ≡ count_by f (arc_of v t) + count_by f (arcs ts v) = count-append f (arc_of v t) (arcs ts v) in
    let l : times_run (t ∷ ts) c v ≡ cond (runs c v t) 1 0 + times_run ts c v = count-cons (runs c v) t ts in
    let m : count_by f (arc_of v t) ≤ cond (runs c v t) 1 0 = arc_ends c (eqb t.0 v) (eqb t.1 v) (eqb t.2 v) t in
    let n : count_by f (arcs ts v) ≤ times_run ts c v = arcs_end ts v c in
    omega arith

pub arcs_single : (ts : List Triangle) → ((a b : ℕ) → times_run ts a b ≤ 1) → (v : ℕ) → IsSingle (arcs ts v)
arcs_single ts once v = record {
  begun = λ b. (let k : count_by (λ (p : ℕ × ℕ). eqb p.0 b) (arcs ts v) ≤ times_run ts v b = arcs_begin ts v b in let l : times_run ts v b ≤ 1 = once v b in omega arith);
  ended = λ c. (let k : count_by (λ (p : ℕ × ℕ). eqb p.1 c) (arcs ts v) ≤ times_run ts c v = arcs_end ts v c in let l : times_run ts c v ≤ 1 = once c v in omega arith);
}

-- where no ordered pair is run twice, the triangles round a vertex form one fan exactly where the walk takes all its arcs
pub fan_decided : (ts : List Triangle) → ((a b : ℕ) → times_run ts a b ≤ 1) → (v : ℕ) → (fan_walk (arcs ts v) ≡ true → IsFan ts v) × (IsFan ts v → fan_walk (arcs ts v) ≡ true)
fan_decided ts once v = pairs_decided (arcs ts v) (arcs_single ts once v)

-- and a walk from any such start takes them all
pub fan_from : (ts : List Triangle) → ((a b : ℕ) → times_run ts a b ≤ 1) → (v st : ℕ) → IsFanStart (arcs ts v) st →
    (length (walked (arcs ts v) (length (arcs ts v)) st st) ≡ length (arcs ts v) → IsFan ts v)
    × (IsFan ts v → length (walked (arcs ts v) (length (arcs ts v)) st st) ≡ length (arcs ts v))
fan_from ts once v st start = (
  (λ l. by_size (arcs ts v) (arcs_single ts once v) l),
  (λ h. fan_walked (arcs ts v) (arcs_single ts once v) st h start),
)
  where
    by_size : (ps : List (ℕ × ℕ)) → IsSingle ps → length (walked ps (length ps) st st) ≡ length ps → FanOf ps
    by_size [] single l = ([], tt, inl (λ b c. refl))
    by_size (p ∷ ps) single l = walk_fan (p ∷ ps) single st (length ps) refl l
