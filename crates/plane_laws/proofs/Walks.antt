-- The line from an edge along pairs of which each number begins one at most and ends one at most.
use Rattle.std.proofs.Common.{◌≡◌, ℕ, zero, suc, ◌+◌, ◌≤◌, Bool, true, false, cond, ◌&&◌, not, List, [], ◌∷◌, map, length, refl, sym, ◌∙◌, ap, subst, ◌⊎◌, inl, inr, arith, eqb}
use Rattle.std.proofs.lemmas.Bool.{cases_Bool, cases_eq, eq-eqb, ne_eqb}
use Rattle.iso_defs.specs.Lists.{begins}
use Rattle.iso_defs.specs.Cell.{next_of}
use Rattle.iso_defs.specs.Contours.{trace}
use Rattle.triangle_laws.proofs.Lists.{In, in_map}
use Rattle.triangle_laws.proofs.Counts.{Distinct}
use Rattle.triangle_laws.proofs.FanWalk.{IsSingle, no_longer, one_element, next_in}

-- e is reached from the start through the list, which is told from its end
abbrev pub Reached : List (ℕ × ℕ) → ℕ → List ℕ → ℕ → Type 0
Reached ps st [] e = e ≡ st
Reached ps st (p ∷ pre) e = In (p, e) ps × Reached ps st pre p

-- a list turned round, before another
abbrev pub turned : List ℕ → List ℕ → List ℕ
turned [] acc = acc
turned (p ∷ pre) acc = turned pre (p ∷ acc)

pub in_turned : (pre acc : List ℕ) (x : ℕ) → In x pre ⊎ In x acc → In x (turned pre acc)
in_turned [] acc x (inl i) = absurd i
in_turned [] acc x (inr i) = i
in_turned (p ∷ pre) acc x (inl (inl e)) = in_turned pre (p ∷ acc) x (inr (inl e))
in_turned (p ∷ pre) acc x (inl (inr i)) = in_turned pre (p ∷ acc) x (inl i)
in_turned (p ∷ pre) acc x (inr i) = in_turned pre (p ∷ acc) x (inr (inr i))

pub turned_in : (pre acc : List ℕ) (x : ℕ) → In x (turned pre acc) → In x pre ⊎ In x acc
turned_in [] acc x i = inr i
turned_in (p ∷ pre) acc x i =
    elim (turned_in pre (p ∷ acc) x i) [
      | inl j ↦ inl (inr j)
      | inr (inl e) ↦ inl (inl e)
      | inr (inr j) ↦ inr j
    ]

-- what ends at a number begins at one
pub one_previous : (ps : List (ℕ × ℕ)) → IsSingle ps → (b c d : ℕ) → In (b, d) ps → In (c, d) ps → b ≡ c
one_previous ps single b c d i j =
    ap (λ (p : ℕ × ℕ). p.0) (one_element (λ (p : ℕ × ℕ). eqb p.1 d) ps (b, d) (c, d) (single.ended d) i j (eq-eqb d d refl) (eq-eqb d d refl))

length_firsts : (f : ℕ × ℕ → ℕ) (ps : List (ℕ × ℕ)) → length (map f ps) ≡ length ps
length_firsts f [] = refl
length_firsts f (p ∷ ps) = ap suc (length_firsts f ps)

module _ (ps : List (ℕ × ℕ)) (single : IsSingle ps) (st : ℕ) where
  pub comes_from : (pre : List ℕ) (e : ℕ) → Reached ps st pre e → (x : ℕ) → In x (e ∷ pre) → (x ≡ st) ⊎ ((y : ℕ) × In y pre × In (y, x) ps)
  comes_from [] e r x (inl k) = inl (k ∙ r)
  comes_from [] e r x (inr i) = absurd i
  comes_from (p ∷ pre) e r x (inl k) = inr (p, inl refl, subst (λ z. In (p, z) ps) (sym k) r.0)
  comes_from (p ∷ pre) e r x (inr i) = elim (comes_from pre p r.1 x i) [ inl k ↦ inl k | inr w ↦ inr (w.0, inr w.1, w.2) ]

  pub goes_to : (pre : List ℕ) (e : ℕ) → Reached ps st pre e → (x : ℕ) → In x pre → (y : ℕ) × In y (e ∷ pre) × In (x, y) ps
  goes_to [] e r x i = absurd i
  goes_to (p ∷ pre) e r x (inl k) = (e, inl refl, subst (λ z. In (z, e) ps) (sym k) r.0)
  goes_to (p ∷ pre) e r x (inr i) = let w : (y : ℕ) × In y (p ∷ pre) × In (x, y) ps = goes_to pre p r.1 x i in (w.0, inr w.1, w.2)

  -- a number that is reached and is not the start is new
  pub fresh : (p : ℕ) (pre : List ℕ) (e : ℕ) → Reached ps st (p ∷ pre) e → Distinct (p ∷ pre) → (e ≡ st → ⊥) → In e (p ∷ pre) → ⊥
  fresh p pre e r d ne i =
      elim (comes_from pre p r.1 e i) [
        | inl k ↦ ne k
        | inr w ↦ d.0 (subst (λ z. In z pre) (one_previous ps single w.0 p e w.2 r.0) w.1)
      ]

  -- as many numbers begin pairs as there are pairs at most
  few : (pre : List ℕ) (e : ℕ) → Reached ps st pre e → Distinct (e ∷ pre) → begins ps e ≡ true → suc (length pre) ≤ length ps
  few pre e r d h =
      let firsts : List ℕ = map (λ (p : ℕ × ℕ). p.0) ps in
      let k : length (e ∷ pre) ≤ length firsts = no_longer (e ∷ pre) firsts d
      (λ x i. elim i [
        | inl q ↦ subst (λ z. In z firsts) (sym q) (in_map (λ (p : ℕ × ℕ). p.0) (e, next_of ps e) ps (next_in ps e h))
        | inr j ↦ (let w : (y : ℕ) × In y (e ∷ pre) × In (x, y) ps = goes_to pre e r x j in in_map (λ (p : ℕ × ℕ). p.0) (x, w.0) ps w.2)
      ]) in
      let l : length firsts ≡ length ps = length_firsts (λ (p : ℕ × ℕ). p.0) ps in
      omega arith

  pub trace_end : (n e : ℕ) → begins ps e ≡ false → trace ps n st e ≡ e ∷ []
  trace_end zero e h = refl
  trace_end (suc n) e h = ap (λ b. e ∷ cond (b && not (eqb (next_of ps e) st)) (trace ps n st (next_of ps e)) []) h

  pub trace_back : (n e : ℕ) → next_of ps e ≡ st → trace ps n st e ≡ e ∷ []
  trace_back zero e h = refl
  trace_back (suc n) e h =
      ap (λ b. e ∷ cond (begins ps e && not b) (trace ps n st (next_of ps e)) []) (eq-eqb (next_of ps e) st h)
      ∙ ap (λ b. e ∷ cond b (trace ps n st (next_of ps e)) []) (never (begins ps e))
    where
      never : (b : Bool) → (b && false) ≡ false
      never true = refl
      never false = refl

  pub trace_on : (n e : ℕ) → begins ps e ≡ true → (next_of ps e ≡ st → ⊥) → trace ps (suc n) st e ≡ e ∷ trace ps n st (next_of ps e)
  trace_on n e h ne =
      ap (λ b. e ∷ cond (b && not (eqb (next_of ps e) st)) (trace ps n st (next_of ps e)) []) h
      ∙ ap (λ b. e ∷ cond (not b) (trace ps n st (next_of ps e)) []) (ne_eqb (next_of ps e) st ne)

  -- how a line from a number that is reached goes on: where it stops, and what it passed, told from its end
  pub record Told (n : ℕ) (pre : List ℕ) (e : ℕ) : Type 0 where
    pub left : List ℕ
    pub stop : ℕ
    pub reached : Reached ps st left stop
    pub differ : Distinct (stop ∷ left)
    pub ended : (begins ps stop ≡ false) ⊎ In (stop, st) ps
    pub whole : turned pre (trace ps n st e) ≡ turned left (stop ∷ [])
    pub steady : trace ps n st e ≡ trace ps (suc n) st e

  stops : (n : ℕ) (pre : List ℕ) (e : ℕ) → Reached ps st pre e → Distinct (e ∷ pre) → trace ps n st e ≡ e ∷ [] → trace ps (suc n) st e ≡ e ∷ []
      → (begins ps e ≡ false) ⊎ In (e, st) ps → Told n pre e
  stops n pre e r d h k o = record {
    left = pre;
    stop = e;
    reached = r;
    differ = d;
    ended = o;
    whole = ap (turned pre) h;
    steady = h ∙ sym k;
  }

  further : (m : ℕ) (pre : List ℕ) (e : ℕ) → begins ps e ≡ true → (next_of ps e ≡ st → ⊥) → Told m (e ∷ pre) (next_of ps e) → Told (suc m) pre e
  further m pre e h ne t = record {
    left = t.left;
    stop = t.stop;
    reached = t.reached;
    differ = t.differ;
    ended = t.ended;
    whole = ap (turned pre) (trace_on m e h ne) ∙ t.whole;
    steady = trace_on m e h ne ∙ (ap (λ z. e ∷ z) t.steady ∙ sym (trace_on (suc m) e h ne));
  }

  pub told : (n : ℕ) (pre : List ℕ) (e : ℕ) → Reached ps st pre e → Distinct (e ∷ pre) → length ps ≤ n + length pre → Told n pre e
  told zero pre e r d l =
      elim (cases_Bool (begins ps e)) [
        | inr h ↦ stops 0 pre e r d (trace_end 0 e h) (trace_end 1 e h) (inl h)
        | inl h ↦ absurd (let k : suc (length pre) ≤ length ps = few pre e r d h in omega arith)
      ]
  told (suc m) pre e r d l =
      elim (cases_Bool (begins ps e)) [
        | inr h ↦ stops (suc m) pre e r d (trace_end (suc m) e h) (trace_end (suc (suc m)) e h) (inl h)
        | inl h ↦ elim (cases_eq (next_of ps e) st) [
          | inl q ↦ stops (suc m) pre e r d (trace_back (suc m) e q) (trace_back (suc (suc m)) e q) (inr (subst (λ z. In (e, z) ps) q (next_in ps e h)))
          | inr ne ↦ (
              let r' : Reached ps st (e ∷ pre) (next_of ps e) = (next_in ps e h, r) in
              let k : length (e ∷ pre) ≡ suc (length pre) = refl in
              further m pre e h ne (told m (e ∷ pre) (next_of ps e) r' (fresh e pre (next_of ps e) r' d ne, d) (omega arith)))
        ]
      ]
