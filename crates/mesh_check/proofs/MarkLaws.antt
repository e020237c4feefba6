-- What marks say of the arcs that they were made from.
use Rattle.std.proofs.Common.{◌≡◌, ℕ, zero, suc, ◌+◌, ◌-◌, ◌<◌, ◌≤◌, Bool, true, false, not, cond, ◌||◌, List, [], ◌∷◌, length, refl, sym, ◌∙◌, ap, subst, inl, inr, arith, eqb, nat_lt, Option, Some, None}
use Rattle.std.specs.List.{count_by, AllByRecursion}
use Rattle.std.proofs.lemmas.Bool.{cases_Bool, cases_eq, eq-eqb, eqb-true, ne_eqb, ltb-true, ltb-false, both_ways}
use Rattle.iso_defs.specs.Lists.{begins, ends}
use Rattle.iso_defs.specs.Cell.{next_of}
use Rattle.iso_defs.specs.FanWalk.{walked}
use Rattle.triangle_laws.proofs.Counts.{count-cons, count_some, count_none}
use Rattle.triangle_laws.proofs.FanWalk.{next_in, begins_from}
use Rattle.mesh_check.specs.declared.marks.Mark.{Mark}
use Rattle.arc_rings.specs.Arcs.{ArcBelow}
use Rattle.mesh_check.specs.Marks.{IsMarked, IsUnmarked, IsPut, IsLeastTwice, begun, mark_at, noted_of}

begins_first : (b e k : ℕ) (arcs : List (ℕ × ℕ)) → k ≡ b → begins ((b, e) ∷ arcs) k ≡ true
begins_first b e k arcs h = ap (λ t. t || begins arcs k) (eq-eqb b k (sym h))

begins_other : (b e k : ℕ) (arcs : List (ℕ × ℕ)) → (k ≡ b → ⊥) → begins ((b, e) ∷ arcs) k ≡ begins arcs k
begins_other b e k arcs n = ap (λ t. t || begins arcs k) (ne_eqb b k (λ h. n (sym h)))

ends_first : (b e k : ℕ) (arcs : List (ℕ × ℕ)) → k ≡ e → ends ((b, e) ∷ arcs) k ≡ true
ends_first b e k arcs h = ap (λ t. t || ends arcs k) (eq-eqb e k (sym h))

ends_other : (b e k : ℕ) (arcs : List (ℕ × ℕ)) → (k ≡ e → ⊥) → ends ((b, e) ∷ arcs) k ≡ ends arcs k
ends_other b e k arcs n = ap (λ t. t || ends arcs k) (ne_eqb e k (λ h. n (sym h)))

next_first : (b e k : ℕ) (arcs : List (ℕ × ℕ)) → k ≡ b → next_of ((b, e) ∷ arcs) k ≡ e
next_first b e k arcs h = ap (λ t. cond t e (next_of arcs k)) (eq-eqb b k (sym h))

next_other : (b e k : ℕ) (arcs : List (ℕ × ℕ)) → (k ≡ b → ⊥) → next_of ((b, e) ∷ arcs) k ≡ next_of arcs k
next_other b e k arcs n = ap (λ t. cond t e (next_of arcs k)) (ne_eqb b k (λ h. n (sym h)))

module _ (old new : List Mark) (b e s : ℕ) (arcs : List (ℕ × ℕ)) (len : length new ≡ length old) (put : IsPut old new b e s) where
  pub marked_put : IsMarked old s arcs → IsMarked new s ((b, e) ∷ arcs)
  marked_put m = record {
    owned = λ k l h. elim (cases_eq k b) [
      | inl q ↦ begins_first b e k arcs q
      | inr n ↦ begins_other b e k arcs n ∙ m.owned k (omega arith) (sym (put.owner_kept k n) ∙ h)
    ];
    owns = λ k l h. elim (cases_eq k b) [
      | inl q ↦ ap (λ j. (mark_at new j).owner) q ∙ put.owner
      | inr n ↦ put.owner_kept k n ∙ m.owns k (omega arith) (sym (begins_other b e k arcs n) ∙ h)
    ];
    next = λ k l h. elim (cases_eq k b) [
      | inl q ↦ (ap (λ j. (mark_at new j).to) q ∙ put.to) ∙ sym (next_first b e k arcs q)
      | inr n ↦ (put.to_kept k n ∙ m.next k (omega arith) (sym (begins_other b e k arcs n) ∙ h)) ∙ sym (next_other b e k arcs n)
    ];
    ended = λ k l h. elim (cases_eq k e) [
      | inl q ↦ ends_first b e k arcs q
      | inr n ↦ ends_other b e k arcs n ∙ m.ended k (omega arith) (sym (put.ended_kept k n) ∙ h)
    ];
    ending = λ k l h. elim (cases_eq k e) [
      | inl q ↦ ap (λ j. (mark_at new j).ended) q ∙ put.ended
      | inr n ↦ put.ended_kept k n ∙ m.ending k (omega arith) (sym (ends_other b e k arcs n) ∙ h)
    ];
  }

  pub older_put : IsUnmarked old (s + 1) → IsUnmarked new (s + 1)
  older_put h k l = (owner, ended)
    where
      owner : (mark_at new k).owner < s + 1
      owner = elim (cases_eq k b) [
        | inl q ↦ (let o : (mark_at new k).owner ≡ s = ap (λ j. (mark_at new j).owner) q ∙ put.owner in omega arith)
        | inr n ↦ (let o : (mark_at new k).owner ≡ (mark_at old k).owner = put.owner_kept k n in let m : (mark_at old k).owner < s + 1 = (h k (omega arith)).0 in omega arith)
      ]

      ended : (mark_at new k).ended < s + 1
      ended = elim (cases_eq k e) [
        | inl q ↦ (let o : (mark_at new k).ended ≡ s = ap (λ j. (mark_at new j).ended) q ∙ put.ended in omega arith)
        | inr n ↦ (let o : (mark_at new k).ended ≡ (mark_at old k).ended = put.ended_kept k n in let m : (mark_at old k).ended < s + 1 = (h k (omega arith)).1 in omega arith)
      ]

begun_first : (b e : ℕ) (arcs : List (ℕ × ℕ)) → begun ((b, e) ∷ arcs) b ≡ 1 + begun arcs b
begun_first b e arcs = count-cons (λ (p : ℕ × ℕ). eqb p.0 b) (b, e) arcs ∙ ap (λ t. cond t 1 0 + begun arcs b) (eq-eqb b b refl)

begun_other : (b e c : ℕ) (arcs : List (ℕ × ℕ)) → (c ≡ b → ⊥) → begun ((b, e) ∷ arcs) c ≡ 0 + begun arcs c
begun_other b e c arcs n = count-cons (λ (p : ℕ × ℕ). eqb p.0 c) (b, e) arcs ∙ ap (λ t. cond t 1 0 + begun arcs c) (ne_eqb b c (λ h. n (sym h)))

begun_some : (arcs : List (ℕ × ℕ)) (b : ℕ) → begins arcs b ≡ true → 0 < begun arcs b
begun_some arcs b h = count_some (λ (p : ℕ × ℕ). eqb p.0 b) arcs (b, next_of arcs b) (next_in arcs b h) (eq-eqb b b refl)

begun_none : (arcs : List (ℕ × ℕ)) (b : ℕ) → begins arcs b ≡ false → begun arcs b ≡ 0
begun_none arcs b h =
    count_none (λ (p : ℕ × ℕ). eqb p.0 b) arcs
    (λ p i e. clash (begins arcs b) (subst (λ z. begins arcs z ≡ true) (eqb-true p.0 b e) (begins_from arcs p.0 p.1 i)) h)
  where
    clash : (x : Bool) → x ≡ true → x ≡ false → ⊥
    clash true e f = cc
    clash false e f = cc

-- the least vertex that begins two arcs, with one more arc
pub twice_put : (b e : ℕ) (arcs : List (ℕ × ℕ)) (o : Option ℕ) → IsLeastTwice arcs o → IsLeastTwice ((b, e) ∷ arcs) (noted_of o b (begins arcs b))
twice_put b e arcs o h = go (begins arcs b) refl o h
  where
    -- at most one, where none began here before
    fresh : begins arcs b ≡ false → (c : ℕ) → begun arcs c ≤ 1 → begun ((b, e) ∷ arcs) c ≤ 1
    fresh n c k = elim (cases_eq c b) [
      | inl q ↦ (let f : begun ((b, e) ∷ arcs) b ≡ 1 + begun arcs b = begun_first b e arcs in let z : begun arcs b ≡ 0 = begun_none arcs b n in
          subst (λ j. begun ((b, e) ∷ arcs) j ≤ 1) (sym q) (omega arith))
      | inr n ↦ (let f : begun ((b, e) ∷ arcs) c ≡ 0 + begun arcs c = begun_other b e c arcs n in omega arith)
    ]

    more : (c : ℕ) → 2 ≤ begun arcs c → 2 ≤ begun ((b, e) ∷ arcs) c
    more c k = elim (cases_eq c b) [
      | inl q ↦ (let f : begun ((b, e) ∷ arcs) b ≡ 1 + begun arcs b = begun_first b e arcs in let g : 2 ≤ begun arcs b = subst (λ j. 2 ≤ begun arcs j) q k in
          subst (λ j. 2 ≤ begun ((b, e) ∷ arcs) j) (sym q) (omega arith))
      | inr n ↦ (let f : begun ((b, e) ∷ arcs) c ≡ 0 + begun arcs c = begun_other b e c arcs n in omega arith)
    ]

    here : begins arcs b ≡ true → 2 ≤ begun ((b, e) ∷ arcs) b
    here y = let f : begun ((b, e) ∷ arcs) b ≡ 1 + begun arcs b = begun_first b e arcs in let g : 0 < begun arcs b = begun_some arcs b y in omega arith

    other : (c : ℕ) → c < b → begun arcs c ≤ 1 → begun ((b, e) ∷ arcs) c ≤ 1
    other c l k = let f : begun ((b, e) ∷ arcs) c ≡ 0 + begun arcs c = begun_other b e c arcs (λ q. absurd (omega arith)) in omega arith

    pick : (c : ℕ) → begins arcs b ≡ true → (2 ≤ begun arcs c) × ((d : ℕ) → d < c → begun arcs d ≤ 1) → (t : Bool) → nat_lt c b ≡ t
        → IsLeastTwice ((b, e) ∷ arcs) (cond t (Some c) (Some b))
    pick c y h true q = let l : c < b = ltb-true c b q in (more c h.0, (λ d k. other d (omega arith) (h.1 d k)))
    pick c y h false q = let l : b ≤ c = ltb-false c b q in (here y, (λ d k. other d k (h.1 d (omega arith))))

    go : (t : Bool) → begins arcs b ≡ t → (o : Option ℕ) → IsLeastTwice arcs o → IsLeastTwice ((b, e) ∷ arcs) (noted_of o b t)
    go false n None h = λ c. fresh n c (h c)
    go false n (Some c) h = (more c h.0, (λ d l. fresh n d (h.1 d l)))
    go true y None h = (here y, (λ c l. other c l (h c)))
    go true y (Some c) h = pick c y h (nat_lt c b) refl

-- the walk goes on
pub walk_on : (arcs : List (ℕ × ℕ)) (n start at to : ℕ) → 0 < n → begins arcs at ≡ true → to ≡ next_of arcs at → (to ≡ start → ⊥)
    → length (walked arcs n start at) ≡ 1 + length (walked arcs (n - 1) start to)
walk_on arcs zero start at to l h e n = absurd (omega arith)
walk_on arcs (suc m) start at to l h e n =
    let p : m ≡ suc m - 1 = omega arith in
    let k : eqb (next_of arcs at) start ≡ false = ne_eqb (next_of arcs at) start (λ q. n (e ∙ q)) in
    ap (λ t. length (cond t (at ∷ cond (eqb (next_of arcs at) start) [] (walked arcs m start (next_of arcs at))) [])) h
    ∙ (ap (λ t. length (at ∷ cond t [] (walked arcs m start (next_of arcs at)))) k
    ∙ ((let q : length (at ∷ walked arcs m start (next_of arcs at)) ≡ 1 + length (walked arcs m start (next_of arcs at)) = omega arith in q)
    ∙ (ap (λ z. 1 + length (walked arcs m start z)) (sym e) ∙ ap (λ z. 1 + length (walked arcs z start to)) p)))

-- the walk is back at its start
pub walk_back : (arcs : List (ℕ × ℕ)) (n start at to : ℕ) → 0 < n → begins arcs at ≡ true → to ≡ next_of arcs at → to ≡ start
    → length (walked arcs n start at) ≡ 1
walk_back arcs zero start at to l h e b = absurd (omega arith)
walk_back arcs (suc m) start at to l h e b =
    let k : eqb (next_of arcs at) start ≡ true = eq-eqb (next_of arcs at) start (sym e ∙ b) in
    ap (λ t. length (cond t (at ∷ cond (eqb (next_of arcs at) start) [] (walked arcs m start (next_of arcs at))) [])) h
    ∙ ap (λ t. length (at ∷ cond t [] (walked arcs m start (next_of arcs at)))) k

-- what follows is below the number
pub next_below : (n : ℕ) (arcs : List (ℕ × ℕ)) (k : ℕ) → AllByRecursion (ArcBelow n) arcs → begins arcs k ≡ true → next_of arcs k < n
next_below n [] k all h = cc
next_below n (p ∷ ps) k all h =
    elim (cases_eq k p.0) [
      | inl q ↦ subst (λ z. z < n) (sym (next_first p.0 p.1 k ps q)) all.0.1
      | inr ne ↦ subst (λ z. z < n) (sym (next_other p.0 p.1 k ps ne)) (next_below n ps k all.1 (sym (begins_other p.0 p.1 k ps ne) ∙ h))
    ]

-- where no begin is loose, each ends an arc
pub none_loose : (arcs : List (ℕ × ℕ)) → count_by (λ (p : ℕ × ℕ). not (ends arcs p.0)) arcs ≡ 0 → (w : ℕ) → begins arcs w ≡ true → ends arcs w ≡ true
none_loose arcs z w h =
    elim (cases_Bool (ends arcs w)) [
      | inl e ↦ e
      | inr e ↦ (let l : 0 < count_by (λ (p : ℕ × ℕ). not (ends arcs p.0)) arcs = count_some (λ (p : ℕ × ℕ). not (ends arcs p.0)) arcs (w, next_of arcs w) (next_in arcs w h) (ap not e) in absurd (omega arith))
    ]

-- the test of the code is whether the vertex begins an arc
pub owned_is : (marks : List Mark) (s : ℕ) (arcs : List (ℕ × ℕ)) (k : ℕ) → IsMarked marks s arcs → k < length marks → eqb (mark_at marks k).owner s ≡ begins arcs k
owned_is marks s arcs k m l =
    elim (cases_Bool (begins arcs k)) [
      | inl y ↦ eq-eqb (mark_at marks k).owner s (m.owns k l y) ∙ sym y
      | inr n ↦ ne_eqb (mark_at marks k).owner s (λ e. both_ways (begins arcs k) n (m.owned k l e)) ∙ sym n
    ]
