-- One walk along the arcs round a vertex decides whether they are one path or one cycle.
use Rattle.std.proofs.Common.{◌≡◌, ℕ, zero, suc, ◌+◌, ◌<◌, ◌≤◌, Bool, true, false, cond, ◌||◌, List, [], ◌∷◌, ◌++◌, map, length, refl, sym, ◌∙◌, ap, subst, ◌⊎◌, inl, inr, arith, eqb}
use Rattle.std.specs.List.{count_by}
use Rattle.std.proofs.lemmas.Bool.{cases_Bool, cases_eq, eqb-true, eq-eqb, ne_eqb}
use Rattle.iso_defs.specs.Lists.{IsDistinct, is_in, steps, around, begins, ends}
use Rattle.iso_defs.specs.Cell.{next_of}
use Rattle.iso_defs.specs.FanWalk.{walked}
use Rattle.triangle_laws.proofs.Lists.{In, In-map, in_map, in_any, any_in}
use Rattle.triangle_laws.proofs.Counts.{count-cons, count_some, Distinct}
use Rattle.triangle_laws.proofs.Fans.{FanOf, in_is_in, same_pairs_from, closing_steps}

-- lists without repetition
pub to_distinct : (xs : List ℕ) → IsDistinct xs → Distinct xs
to_distinct [] d = tt
to_distinct (x ∷ xs) d = ((λ i. d.0 (any_in (λ y. eqb y x) xs x i (eq-eqb x x refl))), to_distinct xs d.1)

pub from_distinct : (xs : List ℕ) → Distinct xs → IsDistinct xs
from_distinct [] d = tt
from_distinct (x ∷ xs) d = ((λ h. d.0 (in_is_in x xs h)), from_distinct xs d.1)

take_out : (x : ℕ) (ys : List ℕ) → In x ys → (zs : List ℕ) × (length ys ≡ suc (length zs)) × ((y : ℕ) → In y ys → (y ≡ x → ⊥) → In y zs)
take_out x [] i = absurd i
take_out x (y ∷ ys) (inl e) = (ys, refl, (λ z i ne. elim i [ inl k ↦ absurd (ne (k ∙ sym e)) | inr j ↦ j ]))
take_out x (y ∷ ys) (inr i) =
    let r : (zs : List ℕ) × (length ys ≡ suc (length zs)) × ((y : ℕ) → In y ys → (y ≡ x → ⊥) → In y zs) = take_out x ys i in
    (y ∷ r.0, ap suc r.1, (λ z i ne. elim i [ inl k ↦ inl k | inr j ↦ inr (r.2 z j ne) ]))

-- a list without repetition is no longer than one that holds it
pub no_longer : (xs ys : List ℕ) → Distinct xs → ((x : ℕ) → In x xs → In x ys) → length xs ≤ length ys
no_longer [] ys d h = omega arith
no_longer (x ∷ xs) ys d h =
    let r : (zs : List ℕ) × (length ys ≡ suc (length zs)) × ((y : ℕ) → In y ys → (y ≡ x → ⊥) → In y zs) = take_out x ys (h x (inl refl)) in
    let k : length xs ≤ length r.0 = no_longer xs r.0 d.1 (λ y i. r.2 y (h y (inr i)) (λ e. d.0 (subst (λ z. In z xs) e i))) in
    let e : length ys ≡ suc (length r.0) = r.1 in
    omega arith

-- and if it is as long, it holds that one
pub holds_all : (xs ys : List ℕ) → Distinct xs → ((x : ℕ) → In x xs → In x ys) → length ys ≤ length xs → (y : ℕ) → In y ys → In y xs
holds_all xs ys d h l y i =
    elim (cases_Bool (is_in y xs)) [
      | inl e ↦ in_is_in y xs e
      | inr e ↦ (
          let k : length (y ∷ xs) ≤ length ys
          = no_longer (y ∷ xs) ys ((λ j. clash (is_in y xs) (any_in (λ z. eqb z y) xs y j (eq-eqb y y refl)) e), d)
          (λ x j. elim j [ inl m ↦ subst (λ z. In z ys) (sym m) i | inr m ↦ h x m ]) in
          absurd (omega arith))
    ]
  where
    clash : (b : Bool) → b ≡ true → b ≡ false → ⊥
    clash true e f = cc
    clash false e f = cc

-- what a test that passes once at most passes is one element
pub one_element : {A : Type 0} (p : A → Bool) (xs : List A) (x y : A) → count_by p xs ≤ 1 → In x xs → In y xs → p x ≡ true → p y ≡ true → x ≡ y
one_element p [] x y l i j hx hy = absurd i
one_element p (z ∷ zs) x y l (inl i) (inl j) hx hy = i ∙ sym j
one_element p (z ∷ zs) x y l (inl i) (inr j) hx hy =
    absurd (let c : count_by p (z ∷ zs) ≡ 1 + count_by p zs = count-cons p z zs ∙ ap (λ b. cond b 1 0 + count_by p zs) (sym (ap p i) ∙ hx) in
    let k : 0 < count_by p zs = count_some p zs y j hy in omega arith)
one_element p (z ∷ zs) x y l (inr i) (inl j) hx hy =
    absurd (let c : count_by p (z ∷ zs) ≡ 1 + count_by p zs = count-cons p z zs ∙ ap (λ b. cond b 1 0 + count_by p zs) (sym (ap p j) ∙ hy) in
    let k : 0 < count_by p zs = count_some p zs x i hx in omega arith)
one_element p (z ∷ zs) x y l (inr i) (inr j) hx hy =
    one_element p zs x y (let c : count_by p (z ∷ zs) ≡ cond (p z) 1 0 + count_by p zs = count-cons p z zs in omega arith) i j hx hy

-- where each value is met once at most, the values differ
pub distinct_values : {A : Type 0} (f : A → ℕ) (xs : List A) → ((b : ℕ) → count_by (λ x. eqb (f x) b) xs ≤ 1) → Distinct (map f xs)
distinct_values f [] h = tt
distinct_values f (x ∷ xs) h = (
  (λ i. (let r : (y : _) × In y xs × (f x ≡ f y) = In-map f (f x) xs i in
      let t : eqb (f r.0) (f x) ≡ true = eq-eqb _ _ (sym r.2) in
      let k : 0 < count_by (λ y. eqb (f y) (f x)) xs = count_some (λ y. eqb (f y) (f x)) xs r.0 r.1 t in
      let c : count_by (λ y. eqb (f y) (f x)) (x ∷ xs) ≡ 1 + count_by (λ y. eqb (f y) (f x)) xs
      = count-cons (λ y. eqb (f y) (f x)) x xs ∙ ap (λ b. cond b 1 0 + count_by (λ y. eqb (f y) (f x)) xs) (eq-eqb (f x) (f x) refl) in
      let l : count_by (λ y. eqb (f y) (f x)) (x ∷ xs) ≤ 1 = h (f x) in omega arith)),
  distinct_values f xs (λ b. (let c : count_by (λ y. eqb (f y) b) (x ∷ xs) ≡ cond (eqb (f x) b) 1 0 + count_by (λ y. eqb (f y) b) xs = count-cons (λ y. eqb (f y) b) x xs in
      let l : count_by (λ y. eqb (f y) b) (x ∷ xs) ≤ 1 = h b in omega arith)),
)

-- pairs of which each number begins one at most and ends one at most
pub record IsSingle (ps : List (ℕ × ℕ)) : Type 0 where
  pub begun : (b : ℕ) → count_by (λ (p : ℕ × ℕ). eqb p.0 b) ps ≤ 1
  pub ended : (b : ℕ) → count_by (λ (p : ℕ × ℕ). eqb p.1 b) ps ≤ 1

-- the vertex that a pair begins at
abbrev first : ℕ × ℕ → ℕ
first p = p.0

-- the rules of a walk
pub next_in : (ps : List (ℕ × ℕ)) (e : ℕ) → begins ps e ≡ true → In (e, next_of ps e) ps
next_in [] e h = absurd (cc)
next_in (p ∷ ps) e h =
    elim (cases_Bool (eqb p.0 e)) [
      | inl k ↦ inl (ap (λ x. (e, x)) (ap (λ b. cond b p.1 (next_of ps e)) k) ∙ ap (λ y. (y, p.1)) (sym (eqb-true _ _ k)))
      | inr k ↦ (
          let r : begins ps e ≡ true = subst (λ b. (b || begins ps e) ≡ true) k h in
          let n : next_of (p ∷ ps) e ≡ next_of ps e = ap (λ b. cond b p.1 (next_of ps e)) k in
          inr (subst (λ x. In (e, x) ps) (sym n) (next_in ps e r)))
    ]

pub begins_from : (ps : List (ℕ × ℕ)) (b c : ℕ) → In (b, c) ps → begins ps b ≡ true
begins_from ps b c i = any_in (λ (p : ℕ × ℕ). eqb p.0 b) ps (b, c) i (eq-eqb b b refl)

pub ends_from : (ps : List (ℕ × ℕ)) (b c : ℕ) → In (b, c) ps → ends ps c ≡ true
ends_from ps b c i = any_in (λ (p : ℕ × ℕ). eqb p.1 c) ps (b, c) i (eq-eqb c c refl)

pub ends_in : (ps : List (ℕ × ℕ)) (c : ℕ) → ends ps c ≡ true → (b : ℕ) × In (b, c) ps
ends_in ps c h =
    let r : (p : ℕ × ℕ) × In p ps × (eqb p.1 c ≡ true) = in_any (λ (p : ℕ × ℕ). eqb p.1 c) ps h in
    (r.0.0, subst (λ x. In (r.0.0, x) ps) (eqb-true _ _ r.2) r.1)

-- the pairs of a walk, told from its end
abbrev back_pairs : List ℕ → ℕ → List (ℕ × ℕ)
back_pairs [] e = []
back_pairs (p ∷ pre) e = (p, e) ∷ back_pairs pre p

back_firsts : (pre : List ℕ) (e b : ℕ) → In b pre → (c : ℕ) × In (b, c) (back_pairs pre e)
back_firsts [] e b i = absurd i
back_firsts (p ∷ pre) e b (inl k) = (e, inl (ap (λ x. (x, e)) k))
back_firsts (p ∷ pre) e b (inr i) = let r : (c : ℕ) × In (b, c) (back_pairs pre p) = back_firsts pre p b i in (r.0, inr r.1)

-- a list turned round, before another
abbrev turned : List ℕ → List ℕ → List ℕ
turned [] acc = acc
turned (p ∷ pre) acc = turned pre (p ∷ acc)

turned_append : (pre acc rest : List ℕ) → turned pre (acc ++ rest) ≡ turned pre acc ++ rest
turned_append [] acc rest = refl
turned_append (p ∷ pre) acc rest = turned_append pre (p ∷ acc) rest

turned_distinct : (pre acc : List ℕ) → Distinct pre → Distinct acc → ((x : ℕ) → In x pre → In x acc → ⊥) → Distinct (turned pre acc)
turned_distinct [] acc d e h = e
turned_distinct (p ∷ pre) acc d e h =
    turned_distinct pre (p ∷ acc) d.1 (h p (inl refl), e)
    (λ x i j. elim j [ inl k ↦ d.0 (subst (λ z. In z pre) k i) | inr k ↦ h x (inr i) k ])

turned_steps : (pre acc : List ℕ) (z : ℕ) (y : ℕ × ℕ) → In y (steps (turned pre (z ∷ acc))) → In y (back_pairs pre z) ⊎ In y (steps (z ∷ acc))
turned_steps [] acc z y i = inr i
turned_steps (p ∷ pre) acc z y i =
    elim (turned_steps pre (z ∷ acc) p y i) [
      | inl j ↦ inl (inr j)
      | inr (inl k) ↦ inl (inl k)
      | inr (inr j) ↦ inr j
    ]

back_steps : (pre acc : List ℕ) (z : ℕ) (y : ℕ × ℕ) → In y (back_pairs pre z) ⊎ In y (steps (z ∷ acc)) → In y (steps (turned pre (z ∷ acc)))
back_steps [] acc z y (inl i) = absurd i
back_steps [] acc z y (inr i) = i
back_steps (p ∷ pre) acc z y (inl (inl k)) = back_steps pre (z ∷ acc) p y (inr (inl k))
back_steps (p ∷ pre) acc z y (inl (inr i)) = back_steps pre (z ∷ acc) p y (inl i)
back_steps (p ∷ pre) acc z y (inr i) = back_steps pre (z ∷ acc) p y (inr (inr i))

module _ (ps : List (ℕ × ℕ)) (single : IsSingle ps) (st : ℕ) where
  pub one_next : (b c d : ℕ) → In (b, c) ps → In (b, d) ps → c ≡ d
  one_next b c d i j =
      ap (λ (p : ℕ × ℕ). p.1) (one_element (λ (p : ℕ × ℕ). eqb p.0 b) ps (b, c) (b, d) (single.begun b) i j (eq-eqb b b refl) (eq-eqb b b refl))

  one_previous : (b c d : ℕ) → In (b, d) ps → In (c, d) ps → b ≡ c
  one_previous b c d i j =
      ap (λ (p : ℕ × ℕ). p.0) (one_element (λ (p : ℕ × ℕ). eqb p.1 d) ps (b, d) (c, d) (single.ended d) i j (eq-eqb d d refl) (eq-eqb d d refl))

  pub next_is : (b c : ℕ) → In (b, c) ps → next_of ps b ≡ c
  next_is b c i = one_next b (next_of ps b) c (next_in ps b (begins_from ps b c i)) i

  walk_none : (n e : ℕ) → begins ps e ≡ false → walked ps (suc n) st e ≡ []
  walk_none n e h = ap (λ b. cond b (e ∷ cond (eqb (next_of ps e) st) [] (walked ps n st (next_of ps e))) []) h

  pub walk_back : (n e : ℕ) → begins ps e ≡ true → next_of ps e ≡ st → walked ps (suc n) st e ≡ e ∷ []
  walk_back n e h k =
      ap (λ b. cond b (e ∷ cond (eqb (next_of ps e) st) [] (walked ps n st (next_of ps e))) []) h
      ∙ ap (λ b. e ∷ cond b [] (walked ps n st (next_of ps e))) (eq-eqb _ _ k)

  pub walk_on : (n e : ℕ) → begins ps e ≡ true → (next_of ps e ≡ st → ⊥) → walked ps (suc n) st e ≡ e ∷ walked ps n st (next_of ps e)
  walk_on n e h k =
      ap (λ b. cond b (e ∷ cond (eqb (next_of ps e) st) [] (walked ps n st (next_of ps e))) []) h
      ∙ ap (λ b. e ∷ cond b [] (walked ps n st (next_of ps e))) (ne_eqb _ _ k)

  -- e is reached from the start through the list, which is told from its end
  abbrev Reached : List ℕ → ℕ → Type 0
  Reached [] e = e ≡ st
  Reached (p ∷ pre) e = In (p, e) ps × Reached pre p

  reached_pairs : (pre : List ℕ) (e : ℕ) → Reached pre e → (y : ℕ × ℕ) → In y (back_pairs pre e) → In y ps
  reached_pairs [] e r y i = absurd i
  reached_pairs (p ∷ pre) e r y (inl k) = subst (λ z. In z ps) (sym k) r.0
  reached_pairs (p ∷ pre) e r y (inr i) = reached_pairs pre p r.1 y i

  comes_from : (pre : List ℕ) (e : ℕ) → Reached pre e → (x : ℕ) → In x (e ∷ pre) → (x ≡ st) ⊎ ((y : ℕ) × In y pre × In (y, x) ps)
  comes_from [] e r x (inl k) = inl (k ∙ r)
  comes_from [] e r x (inr i) = absurd i
  comes_from (p ∷ pre) e r x (inl k) = inr (p, inl refl, subst (λ z. In (p, z) ps) (sym k) r.0)
  comes_from (p ∷ pre) e r x (inr i) = elim (comes_from pre p r.1 x i) [ inl k ↦ inl k | inr w ↦ inr (w.0, inr w.1, w.2) ]

  fresh : (p : ℕ) (pre : List ℕ) (e : ℕ) → Reached (p ∷ pre) e → Distinct (p ∷ pre) → (e ≡ st → ⊥) → In e (p ∷ pre) → ⊥
  fresh p pre e r d ne i =
      elim (comes_from pre p r.1 e i) [
        | inl k ↦ ne k
        | inr w ↦ d.0 (subst (λ z. In z pre) (one_previous w.0 p e w.2 r.0) w.1)
      ]

  reached_start : (pre acc : List ℕ) (e : ℕ) → Reached pre e → (rest : List ℕ) × (turned pre (e ∷ acc) ≡ st ∷ rest)
  reached_start [] acc e r = (acc, ap (λ z. z ∷ acc) r)
  reached_start (p ∷ pre) acc e r = reached_start pre (e ∷ acc) p r.1

  -- a walk of n arcs: where it ends, and what it left, told from its end
  pub record Walk (n : ℕ) : Type 0 where
    pub left : List ℕ
    pub stop : ℕ
    pub reached : Reached left stop
    pub differ : Distinct left
    pub count : length left ≡ n
    pub ended : (stop ≡ st) ⊎ (In stop left → ⊥)

  -- the first arc of a walk of full length
  first_arc : (n e : ℕ) → length (walked ps (suc n) st e) ≡ suc n →
      In (e, next_of ps e) ps × (((next_of ps e ≡ st) × (n ≡ 0)) ⊎ ((next_of ps e ≡ st → ⊥) × (length (walked ps n st (next_of ps e)) ≡ n)))
  first_arc n e l =
      elim (cases_Bool (begins ps e)) [
        | inr h ↦ absurd (let k : 0 ≡ suc n = sym (ap (λ (z : List ℕ). length z) (walk_none n e h)) ∙ l in omega arith)
        | inl h ↦ (
          next_in ps e h,
          elim (cases_eq (next_of ps e) st) [
            | inl k ↦ (let m : 1 ≡ suc n = sym (ap (λ (z : List ℕ). length z) (walk_back n e h k)) ∙ l in inl (k, omega arith))
            | inr ne ↦ (let m : suc (length (walked ps n st (next_of ps e))) ≡ suc n = sym (ap (λ (z : List ℕ). length z) (walk_on n e h ne)) ∙ l in inr (ne, omega arith))
          ],
        )
      ]

  walk_of : (n : ℕ) (pre : List ℕ) (e : ℕ) → Reached pre e → Distinct (e ∷ pre) → length (walked ps (suc n) st e) ≡ suc n → Walk (suc n + length pre)
  walk_of zero pre e r d l =
      let a : In (e, next_of ps e) ps × _ = first_arc zero e l in
      record {
        left = e ∷ pre;
        stop = next_of ps e;
        reached = (a.0, r);
        differ = d;
        count = omega arith;
        ended = elim a.1 [ inl k ↦ inl k.0 | inr k ↦ inr (fresh e pre (next_of ps e) (a.0, r) d k.0) ];
      }
  walk_of (suc n) pre e r d l =
      let a : In (e, next_of ps e) ps × _ = first_arc (suc n) e l in
      elim a.1 [
        | inl k ↦ absurd (let z : suc n ≡ 0 = k.1 in omega arith)
        | inr k ↦ (
            let same : suc n + length (e ∷ pre) ≡ suc (suc n) + length pre = omega arith in
            subst Walk same (walk_of n (e ∷ pre) (next_of ps e) (a.0, r) (fresh e pre (next_of ps e) (a.0, r) d k.0, d) k.1))
      ]

  -- a walk that takes all pairs is a path or a cycle of them
  pub walk_fan : (n : ℕ) → length ps ≡ suc n → length (walked ps (suc n) st st) ≡ suc n → FanOf ps
  walk_fan n size l =
      let w : Walk (suc n + 0) = walk_of n [] st refl ((λ i. i), tt) l in
      let firsts : List ℕ = map first ps in
      let in_firsts : (x : ℕ) → In x w.left → In x firsts
      = λ x i. (let b : (c : ℕ) × In (x, c) (back_pairs w.left w.stop) = back_firsts w.left w.stop x i in
      in_map first (x, b.0) ps (reached_pairs w.left w.stop w.reached (x, b.0) b.1)) in
      let count : length w.left ≡ suc n + 0 = w.count in
      let total : length firsts ≡ length ps = length_firsts ps in
      let all : (x : ℕ) → In x firsts → In x w.left = holds_all w.left firsts w.differ in_firsts (omega arith) in
      let to : (y : ℕ × ℕ) → In y ps → In y (back_pairs w.left w.stop)
      = λ y i. (let b : (c : ℕ) × In (y.0, c) (back_pairs w.left w.stop) = back_firsts w.left w.stop y.0 (all y.0 (in_map first y ps i)) in
      let e : b.0 ≡ y.1 = one_next y.0 b.0 y.1 (reached_pairs w.left w.stop w.reached (y.0, b.0) b.1) i in
      subst (λ c. In (y.0, c) (back_pairs w.left w.stop)) e b.1) in
      finish w.left w.stop w.reached w.differ (omega arith) w.ended to
    where
      length_firsts : (ps : List (ℕ × ℕ)) → length (map first ps) ≡ length ps
      length_firsts [] = refl
      length_firsts (p ∷ ps) = ap suc (length_firsts ps)

      finish : (left : List ℕ) (stop : ℕ) → Reached left stop → Distinct left → 0 < length left → (stop ≡ st) ⊎ (In stop left → ⊥)
          → ((y : ℕ × ℕ) → In y ps → In y (back_pairs left stop)) → FanOf ps
      finish [] stop r d l e to = absurd (omega arith)
      finish (p ∷ pre) stop r d l (inr out) to =
          let ws : List ℕ = turned (p ∷ pre) (stop ∷ []) in (
            ws,
            from_distinct ws (turned_distinct (p ∷ pre) (stop ∷ []) d ((λ i. i), tt) (λ x i j. elim j [ inl k ↦ out (subst (λ z. In z (p ∷ pre)) k i) | inr z ↦ z ])),
            inl (same_pairs_from ps (steps ws) (λ y i. back_steps (p ∷ pre) [] stop y (inl (to y i)))
                (λ y i. elim (turned_steps (p ∷ pre) [] stop y i) [ inl j ↦ reached_pairs (p ∷ pre) stop r y j | inr z ↦ absurd z ])),
          )
      finish (p ∷ pre) stop r d l (inl back) to =
          let ws : List ℕ = turned (p ∷ pre) [] in
          let s : (rest : List ℕ) × (turned pre (p ∷ []) ≡ st ∷ rest) = reached_start pre [] p r.1 in
          let whole : steps (turned (p ∷ pre) (stop ∷ [])) ≡ around ws
          = ap steps (turned_append (p ∷ pre) [] (stop ∷ []) ∙ (ap (λ z. z ++ stop ∷ []) s.1 ∙ ap (λ z. st ∷ (s.0 ++ z ∷ [])) back))
          ∙ (sym (closing_steps st st s.0) ∙ ap around (sym s.1)) in (
            ws,
            from_distinct ws (turned_distinct (p ∷ pre) [] d tt (λ x i j. j)),
            inr (same_pairs_from ps (around ws) (λ y i. subst (λ z. In y z) whole (back_steps (p ∷ pre) [] stop y (inl (to y i))))
                (λ y i. elim (turned_steps (p ∷ pre) [] stop y (subst (λ z. In y z) (sym whole) i)) [ inl j ↦ reached_pairs (p ∷ pre) stop r y j | inr z ↦ absurd z ])),
          )
