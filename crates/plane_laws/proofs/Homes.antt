-- Each edge that begins or ends a segment lies on one listed line.
use Rattle.std.proofs.Common.{◌≡◌, ℕ, zero, suc, ◌<◌, ◌≤◌, Bool, true, false, cond, ◌&&◌, not, List, [], ◌∷◌, length, refl, sym, ◌∙◌, ap, subst, ◌⊎◌, inl, inr, arith, eqb, leb}
use Rattle.std.specs.List.{list_all}
use Rattle.std.proofs.lemmas.Bool.{cases_Bool, both_ways, and_parts, and_from, leb-true, leb-false, le-leb}
use Rattle.iso_defs.specs.Lists.{begins, ends, has_pair, least_of}
use Rattle.iso_defs.specs.Cell.{next_of}
use Rattle.iso_defs.specs.Contours.{trace, line_from, leads_back, lines_at}
use Rattle.triangle_laws.proofs.Lists.{In, In-map, in_map, in_any, any_in, list_all_at}
use Rattle.triangle_laws.proofs.Counts.{count-map, pair_in, in_pair}
use Rattle.triangle_laws.proofs.FanWalk.{IsSingle, one_next, begins_from, ends_from, ends_in}
use Rattle.plane_laws.specs.Lines.{backwards, last_of, start_of}
use Rattle.plane_laws.proofs.Walks.{Reached, turned, in_turned, turned_in, one_previous, comes_from, goes_to, Told, told}

-- pairs run backwards
pub back_in : (ps : List (ℕ × ℕ)) (a b : ℕ) → In (a, b) ps → In (b, a) (backwards ps)
back_in ps a b i = in_map (λ (p : ℕ × ℕ). (p.1, p.0)) (a, b) ps i

pub in_back : (ps : List (ℕ × ℕ)) (a b : ℕ) → In (a, b) (backwards ps) → In (b, a) ps
in_back ps a b i =
    let r : (p : ℕ × ℕ) × In p ps × ((a, b) ≡ (p.1, p.0)) = In-map (λ (p : ℕ × ℕ). (p.1, p.0)) (a, b) ps i in
    subst (λ z. In z ps) (sym (ap (λ (q : ℕ × ℕ). (q.1, q.0)) r.2)) r.1

pub single_back : (ps : List (ℕ × ℕ)) → IsSingle ps → IsSingle (backwards ps)
single_back ps single = record {
  begun = λ b. subst (λ n. n ≤ 1) (sym (count-map (λ (p : ℕ × ℕ). eqb p.0 b) (λ (p : ℕ × ℕ). (p.1, p.0)) ps)) (single.ended b);
  ended = λ b. subst (λ n. n ≤ 1) (sym (count-map (λ (p : ℕ × ℕ). eqb p.1 b) (λ (p : ℕ × ℕ). (p.1, p.0)) ps)) (single.begun b);
}

-- the least number of a list
pub least_in : (x : ℕ) (xs : List ℕ) → In (least_of (x ∷ xs)) (x ∷ xs)
least_in x [] = inl refl
least_in x (y ∷ ys) =
    elim (leb x (least_of (y ∷ ys))) as (λ b. In (cond b x (least_of (y ∷ ys))) (x ∷ y ∷ ys)) [ true ↦ inl refl | false ↦ inr (least_in y ys) ]

pub least_le : (x : ℕ) (xs : List ℕ) (y : ℕ) → In y (x ∷ xs) → least_of (x ∷ xs) ≤ y
least_le x [] y (inl e) = omega arith
least_le x [] y (inr i) = absurd i
least_le x (z ∷ zs) y i = go (leb x (least_of (z ∷ zs))) refl i (λ j. least_le z zs y j)
  where
    go : (b : Bool) → leb x (least_of (z ∷ zs)) ≡ b → In y (x ∷ z ∷ zs) → (In y (z ∷ zs) → least_of (z ∷ zs) ≤ y) → cond b x (least_of (z ∷ zs)) ≤ y
    go true h (inl e) k = omega arith
    go true h (inr j) k = let m : least_of (z ∷ zs) ≤ y = k j in let l : x ≤ least_of (z ∷ zs) = leb-true _ _ h in omega arith
    go false h (inl e) k = let l : least_of (z ∷ zs) < x = leb-false _ _ h in omega arith
    go false h (inr j) k = k j

pub start_in : (ps : List (ℕ × ℕ)) (st : ℕ) (pre : List ℕ) (e : ℕ) → Reached ps st pre e → In st (e ∷ pre)
start_in ps st [] e r = inl (sym r)
start_in ps st (p ∷ pre) e r = inr (start_in ps st pre p r.1)

-- sets of numbers that pairs do not leave, and that none enters
abbrev pub IsForward : List (ℕ × ℕ) → List ℕ → Type 0
IsForward ps xs = (a b : ℕ) → In a xs → In (a, b) ps → In b xs

abbrev pub IsBackward : List (ℕ × ℕ) → List ℕ → Type 0
IsBackward ps xs = (a b : ℕ) → In b xs → In (a, b) ps → In a xs

all_reached : (ps : List (ℕ × ℕ)) (st : ℕ) (xs : List ℕ) → IsForward ps xs → In st xs → (pre : List ℕ) (e : ℕ) → Reached ps st pre e → (x : ℕ) → In x (e ∷ pre) → In x xs
all_reached ps st xs f i [] e r x (inl k) = subst (λ z. In z xs) (sym (k ∙ r)) i
all_reached ps st xs f i [] e r x (inr j) = absurd j
all_reached ps st xs f i (p ∷ pre) e r x (inl k) =
    subst (λ z. In z xs) (sym k) (f p e (all_reached ps st xs f i pre p r.1 p (inl refl)) r.0)
all_reached ps st xs f i (p ∷ pre) e r x (inr j) = all_reached ps st xs f i pre p r.1 x j

start_back : (ps : List (ℕ × ℕ)) (st : ℕ) (xs : List ℕ) → IsBackward ps xs → (pre : List ℕ) (e : ℕ) → Reached ps st pre e → (x : ℕ) → In x (e ∷ pre) → In x xs → In st xs
start_back ps st xs b [] e r x (inl k) i = subst (λ z. In z xs) (k ∙ r) i
start_back ps st xs b [] e r x (inr j) i = absurd j
start_back ps st xs b (p ∷ pre) e r x (inl k) i =
    start_back ps st xs b pre p r.1 p (inl refl) (b p e (subst (λ z. In z xs) k i) r.0)
start_back ps st xs b (p ∷ pre) e r x (inr j) i = start_back ps st xs b pre p r.1 x j i

module _ (ps : List (ℕ × ℕ)) (single : IsSingle ps) where
  pub line_told : (st : ℕ) → Told ps single st (length ps) [] st
  line_told st = told ps single st (length ps) [] st refl ((λ i. i), tt) (omega arith)

  pub in_line : (st x : ℕ) → In x ((line_told st).stop ∷ (line_told st).left) → In x (line_from ps st)
  in_line st x i =
      let t : Told ps single st (length ps) [] st = line_told st in
      subst (λ l. In x l) (sym t.whole) (in_turned t.left (t.stop ∷ []) x (elim i [ inl k ↦ inr (inl k) | inr j ↦ inl j ]))

  pub line_in : (st x : ℕ) → In x (line_from ps st) → In x ((line_told st).stop ∷ (line_told st).left)
  line_in st x i =
      let t : Told ps single st (length ps) [] st = line_told st in
      elim (turned_in t.left (t.stop ∷ []) x (subst (λ l. In x l) t.whole i)) [
        | inl j ↦ inr j
        | inr (inl k) ↦ inl k
        | inr (inr z) ↦ absurd z
      ]

  pub head_in : (st : ℕ) → In st (line_from ps st)
  head_in st = in_line st st (start_in ps st (line_told st).left (line_told st).stop (line_told st).reached)

  pub forward : (st : ℕ) → IsForward ps (line_from ps st)
  forward st a b i p =
      let t : Told ps single st (length ps) [] st = line_told st in
      elim (line_in st a i) [
        | inl k ↦ (let q : In (t.stop, b) ps = subst (λ z. In (z, b) ps) k p in
            elim t.ended [
              | inl n ↦ absurd (both_ways (begins ps t.stop) n (begins_from ps t.stop b q))
              | inr back ↦ subst (λ z. In z (line_from ps st)) (one_next ps single st t.stop st b back q) (head_in st)
            ])
        | inr j ↦ (let w : (y : ℕ) × In y (t.stop ∷ t.left) × In (a, y) ps = goes_to ps single st t.left t.stop t.reached a j in
            subst (λ z. In z (line_from ps st)) (one_next ps single st a w.0 b w.2 p) (in_line st w.0 w.1))
      ]

  -- no pair ends at the start, or one from the line does
  abbrev pub Entered : ℕ → Type 0
  Entered st = (ends ps st ≡ false) ⊎ ((y : ℕ) × In y (line_from ps st) × In (y, st) ps)

  pub backward : (st : ℕ) → Entered st → IsBackward ps (line_from ps st)
  backward st o a b i p =
      let t : Told ps single st (length ps) [] st = line_told st in
      elim (comes_from ps single st t.left t.stop t.reached b (line_in st b i)) [
        | inl k ↦ (let q : In (a, st) ps = subst (λ z. In (a, z) ps) k p in
            elim o [
              | inl n ↦ absurd (both_ways (ends ps st) n (ends_from ps a st q))
              | inr y ↦ subst (λ z. In z (line_from ps st)) (one_previous ps single y.0 a st y.2 q) y.1
            ])
        | inr w ↦ subst (λ z. In z (line_from ps st)) (one_previous ps single w.0 a b w.2 p) (in_line st w.0 (inr w.1))
      ]

  -- each but the first is ended
  ended_or_first : (st x : ℕ) → In x (line_from ps st) → (x ≡ st) ⊎ (ends ps x ≡ true)
  ended_or_first st x i =
      let t : Told ps single st (length ps) [] st = line_told st in
      elim (comes_from ps single st t.left t.stop t.reached x (line_in st x i)) [
        | inl k ↦ inl k
        | inr w ↦ inr (ends_from ps w.0 x w.2)
      ]

  pub back_to : (st x : ℕ) (xs : List ℕ) → IsBackward ps xs → In x (line_from ps st) → In x xs → In st xs
  back_to st x xs b i j = start_back ps st xs b (line_told st).left (line_told st).stop (line_told st).reached x (line_in st x i) j

  pub within : (st : ℕ) (xs : List ℕ) → IsForward ps xs → In st xs → (x : ℕ) → In x (line_from ps st) → In x xs
  within st xs f i x j = all_reached ps st xs f i (line_told st).left (line_told st).stop (line_told st).reached x (line_in st x j)

  -- a line of the list
  pub record Listed (d : ℕ) (l : Bool × List ℕ) : Type 0 where
    pub is : l ≡ (ends ps d, line_from ps d)
    pub begun : (begins ps d ≡ true) ⊎ (ends ps d ≡ true)
    pub entered : Entered d
    pub least : ends ps d ≡ true → (x : ℕ) → In x (line_from ps d) → d ≤ x

  not_false : (b : Bool) → not b ≡ true → b ≡ false
  not_false true h = sym h
  not_false false h = refl

  abbrev other : ℕ → List (Bool × List ℕ)
  other d = cond (leads_back ps d && list_all (leb d) (line_from ps d)) ((true, line_from ps d) ∷ []) []

  listed_path : (d : ℕ) (l : Bool × List ℕ) → begins ps d ≡ true → ends ps d ≡ false → In l ((false, line_from ps d) ∷ []) → Listed d l
  listed_path d l b e (inl k) = record {
    is = k ∙ ap (λ z. (z, line_from ps d)) (sym e);
    begun = inl b;
    entered = inl e;
    least = λ h. absurd (both_ways (ends ps d) e h);
  }
  listed_path d l b e (inr i) = absurd i

  listed_cycle : (d : ℕ) (l : Bool × List ℕ) → leads_back ps d ≡ true → list_all (leb d) (line_from ps d) ≡ true → In l ((true, line_from ps d) ∷ []) → Listed d l
  listed_cycle d l b a (inl k) =
      let r : (y : ℕ) × In y (line_from ps d) × (has_pair ps y d ≡ true) = in_any (λ y. has_pair ps y d) (line_from ps d) b in
      let q : In (r.0, d) ps = pair_in ps r.0 d r.2 in
      let e : ends ps d ≡ true = ends_from ps r.0 d q in
      record {
        is = k ∙ ap (λ z. (z, line_from ps d)) (sym e);
        begun = inr e;
        entered = inr (r.0, r.1, q);
        least = λ h x i. leb-true d x (list_all_at (leb d) (line_from ps d) x a i);
      }
  listed_cycle d l b a (inr i) = absurd i

  pub listed : (d : ℕ) (l : Bool × List ℕ) → In l (lines_at ps d) → Listed d l
  listed d l i =
      elim (cases_Bool (begins ps d && not (ends ps d))) [
        | inl h ↦ (let h' : (begins ps d ≡ true) × (not (ends ps d) ≡ true) = and_parts _ _ h in
            listed_path d l h'.0 (not_false (ends ps d) h'.1) (subst (λ b. In l (cond b ((false, line_from ps d) ∷ []) (other d))) h i))
        | inr h ↦ (
            let i' : In l (other d) = subst (λ b. In l (cond b ((false, line_from ps d) ∷ []) (other d))) h i in
            elim (cases_Bool (leads_back ps d && list_all (leb d) (line_from ps d))) [
              | inl t ↦ (let t' : (leads_back ps d ≡ true) × (list_all (leb d) (line_from ps d) ≡ true) = and_parts _ _ t in
                  listed_cycle d l t'.0 t'.1 (subst (λ b. In l (cond b ((true, line_from ps d) ∷ []) [])) t i'))
              | inr t ↦ absurd (subst (λ b. In l (cond b ((true, line_from ps d) ∷ []) [])) t i')
            ])
      ]

  -- lines that meet are listed from the same edge
  pub same_head : (d e x : ℕ) (l m : Bool × List ℕ) → Listed d l → Listed e m → In x (line_from ps d) → In x (line_from ps e) → d ≡ e
  same_head d e x l m hd he i j =
      let de : In d (line_from ps e) = back_to d x (line_from ps e) (backward e he.entered) i j in
      let ed : In e (line_from ps d) = back_to e x (line_from ps d) (backward d hd.entered) j i in
      elim (ended_or_first e d de) [
        | inl k ↦ k
        | inr n ↦ elim (ended_or_first d e ed) [
          | inl k ↦ sym k
          | inr o ↦ (let a : d ≤ e = hd.least n e ed in let b : e ≤ d = he.least o d de in omega arith)
        ]
      ]

  -- how the way back from an edge ends
  abbrev pub IsActive : ℕ → Type 0
  IsActive e = (begins ps e ≡ true) ⊎ (ends ps e ≡ true)

  pub record Way (e : ℕ) : Type 0 where
    pub start : ℕ
    pub is : start ≡ start_of ps e
    pub found : ((ends ps start ≡ false) × (begins ps start ≡ true) × In e (line_from ps start)) ⊎ ((start ≡ e) × (ends ps e ≡ true) × ((y : ℕ) × In y (line_from ps e) × In (y, e) ps))

  abbrev qs : List (ℕ × ℕ)
  qs = backwards ps

  pub last_turned : (e : ℕ) (left : List ℕ) (stop : ℕ) (acc : List ℕ) → last_of e (turned left (stop ∷ acc)) ≡ last_of stop acc
  last_turned e [] stop acc = refl
  last_turned e (p ∷ left) stop acc = last_turned e left p (stop ∷ acc)

  -- along the way back every number is met from its end
  met : (st : ℕ) (xs : List ℕ) → IsForward ps xs → (pre : List ℕ) (e : ℕ) → Reached qs st pre e → In e xs → (x : ℕ) → In x (e ∷ pre) → In x xs
  met st xs f pre e r i x (inl k) = subst (λ z. In z xs) (sym k) i
  met st xs f [] e r i x (inr j) = absurd j
  met st xs f (p ∷ pre) e r i x (inr j) = met st xs f pre p r.1 (f e p i (in_back ps p e r.0)) x j

  pub way : (e : ℕ) → IsActive e → Way e
  way e active =
      let t : Told qs (single_back ps single) e (length qs) [] e = told qs (single_back ps single) e (length qs) [] e refl ((λ i. i), tt) (omega arith) in
      let last : last_of e (line_from qs e) ≡ t.stop = ap (last_of e) t.whole ∙ last_turned e t.left t.stop [] in
      let at : (b : Bool) → ends ps t.stop ≡ b → start_of ps e ≡ cond b e t.stop
      = λ b h. ap (λ z. cond (ends ps z) e z) last ∙ ap (λ z. cond z e t.stop) h in
      elim t.ended [
        | inl n ↦ (
            let out : ends ps t.stop ≡ false = not_ended t.stop n in
            let here : In e (line_from ps t.stop)
            = met e (line_from ps t.stop) (forward t.stop) t.left t.stop t.reached (head_in t.stop) e (start_in qs e t.left t.stop t.reached) in
            record {
              start = t.stop;
              is = sym (at false out);
              found = inl (out, begun t.left t.stop t.reached out, here);
            })
        | inr back ↦ (
            let p : In (e, t.stop) ps = in_back ps t.stop e back in
            let ended : ends ps t.stop ≡ true = ends_from ps e t.stop p in
            let there : In t.stop (line_from ps e) = forward e e t.stop (head_in e) p in
            let all : (x : ℕ) → In x (t.stop ∷ t.left) → In x (line_from ps e) = met e (line_from ps e) (forward e) t.left t.stop t.reached there in
            let y : (y : ℕ) × In y (line_from ps e) × In (y, e) ps = before t.left t.stop t.reached p all in
            record {
              start = e;
              is = sym (at true ended);
              found = inr (refl, ends_from ps y.0 e y.2, y);
            })
      ]
    where
      not_ended : (d : ℕ) → begins qs d ≡ false → ends ps d ≡ false
      not_ended d n =
          elim (cases_Bool (ends ps d)) [
            | inl h ↦ (let b : (b : ℕ) × In (b, d) ps = ends_in ps d h in absurd (both_ways (begins qs d) n (begins_from qs d b.0 (back_in ps b.0 d b.1))))
            | inr h ↦ h
          ]

      begun : (left : List ℕ) (d : ℕ) → Reached qs e left d → ends ps d ≡ false → begins ps d ≡ true
      begun [] d r out =
          elim active [
            | inl b ↦ subst (λ z. begins ps z ≡ true) (sym r) b
            | inr n ↦ absurd (both_ways (ends ps d) out (subst (λ z. ends ps z ≡ true) (sym r) n))
          ]
      begun (p ∷ left) d r out = begins_from ps d p (in_back ps p d r.0)

      before : (left : List ℕ) (d : ℕ) → Reached qs e left d → In (e, d) ps → ((x : ℕ) → In x (d ∷ left) → In x (line_from ps e)) → (y : ℕ) × In y (line_from ps e) × In (y, e) ps
      before [] d r p all = (d, all d (inl refl), subst (λ z. In (d, z) ps) r (subst (λ z. In (z, d) ps) (sym r) p))
      before (q ∷ left) d r p all =
          elim (start_in qs e (q ∷ left) d r) [
            | inl k ↦ (d, all d (inl refl), subst (λ z. In (d, z) ps) (sym k) (subst (λ z. In (z, d) ps) k p))
            | inr i ↦ (let w : (y : ℕ) × In y (d ∷ q ∷ left) × In (e, y) qs = goes_to qs (single_back ps single) e (q ∷ left) d r e i in
                (w.0, all w.0 w.1, in_back ps e w.0 w.2))
          ]

  -- what is listed from an edge
  list_path : (d : ℕ) → begins ps d ≡ true → ends ps d ≡ false → lines_at ps d ≡ (ends ps d, line_from ps d) ∷ []
  list_path d b e =
      let t : (begins ps d && not (ends ps d)) ≡ true = and_from _ _ b (ap not e) in
      ap (λ z. cond z ((false, line_from ps d) ∷ []) (other d)) t ∙ ap (λ z. (z, line_from ps d) ∷ []) (sym e)

  list_cycle : (d : ℕ) → ends ps d ≡ true → ((y : ℕ) × In y (line_from ps d) × In (y, d) ps) → ((x : ℕ) → In x (line_from ps d) → d ≤ x)
      → lines_at ps d ≡ (ends ps d, line_from ps d) ∷ []
  list_cycle d e y least =
      let n : (begins ps d && not (ends ps d)) ≡ false = ap (λ z. begins ps d && not z) e ∙ never (begins ps d) in
      let b : leads_back ps d ≡ true = any_in (λ z. has_pair ps z d) (line_from ps d) y.0 y.1 (in_pair ps y.0 d y.2) in
      let a : list_all (leb d) (line_from ps d) ≡ true = all_from (line_from ps d) (λ x i. le-leb d x (least x i)) in
      ap (λ z. cond z ((false, line_from ps d) ∷ []) (other d)) n
      ∙ (ap (λ z. cond z ((true, line_from ps d) ∷ []) []) (and_from _ _ b a) ∙ ap (λ z. (z, line_from ps d) ∷ []) (sym e))
    where
      never : (b : Bool) → (b && false) ≡ false
      never true = refl
      never false = refl

      all_from : (xs : List ℕ) → ((x : ℕ) → In x xs → leb d x ≡ true) → list_all (leb d) xs ≡ true
      all_from [] h = refl
      all_from (x ∷ xs) h = and_from _ _ (h x (inl refl)) (all_from xs (λ y i. h y (inr i)))

  pub trace_cons : (n st e : ℕ) → (rest : List ℕ) × (trace ps n st e ≡ e ∷ rest)
  trace_cons zero st e = ([], refl)
  trace_cons (suc n) st e = (cond (begins ps e && not (eqb (next_of ps e) st)) (trace ps n st (next_of ps e)) [], refl)

  -- the least edge of a line
  pub least_on : (d : ℕ) → In (least_of (line_from ps d)) (line_from ps d)
  least_on d = let r : (rest : List ℕ) × (line_from ps d ≡ d ∷ rest) = trace_cons (length ps) d d in subst (λ l. In (least_of l) l) (sym r.1) (least_in d r.0)

  pub least_below : (d x : ℕ) → In x (line_from ps d) → least_of (line_from ps d) ≤ x
  least_below d x i =
      let r : (rest : List ℕ) × (line_from ps d ≡ d ∷ rest) = trace_cons (length ps) d d in
      subst (λ l. least_of l ≤ x) (sym r.1) (least_le d r.0 x (subst (λ l. In x l) r.1 i))

  -- each edge of a listed line is active
  pub active_on : (d x : ℕ) (l : Bool × List ℕ) → Listed d l → In x (line_from ps d) → IsActive x
  active_on d x l h i =
      elim (ended_or_first d x i) [
        | inl k ↦ subst IsActive (sym k) h.begun
        | inr n ↦ inr n
      ]

  -- where an active edge is listed
  pub record Home (e : ℕ) : Type 0 where
    pub head : ℕ
    pub at : lines_at ps head ≡ (ends ps head, line_from ps head) ∷ []
    pub holds : In e (line_from ps head)

  pub home : (e : ℕ) → IsActive e → Home e
  home e active =
      let w : Way e = way e active in
      elim w.found [
        | inl p ↦ record { head = w.start; at = list_path w.start p.1 p.0; holds = p.2 }
        | inr c ↦ (
            let m : ℕ = least_of (line_from ps e) in
            let i : In m (line_from ps e) = least_on e in
            let closed : IsBackward ps (line_from ps e) = backward e (inr c.2) in
            let ended : (x : ℕ) → In x (line_from ps e) → ends ps x ≡ true
            = λ x j. elim (ended_or_first e x j) [ inl k ↦ subst (λ z. ends ps z ≡ true) (sym k) c.1 | inr n ↦ n ] in
            let v : Way m = way m (inr (ended m i)) in
            elim v.found [
              | inl p ↦ absurd (both_ways (ends ps v.start) p.0 (ended v.start (back_to v.start m (line_from ps e) closed p.2 i)))
              | inr y ↦ record {
                head = m;
                at = list_cycle m y.1 y.2 (λ x j. least_below e x (within m (line_from ps e) (forward e) i x j));
                holds = back_to e m (line_from ps m) (backward m (inr y.2)) i (head_in m);
              }
            ])
      ]

  pub listed_at : (d : ℕ) → lines_at ps d ≡ (ends ps d, line_from ps d) ∷ [] → Listed d (ends ps d, line_from ps d)
  listed_at d e = listed d (ends ps d, line_from ps d) (subst (λ l. In (ends ps d, line_from ps d) l) (sym e) (inl refl))

  -- from the least edge of a line the way back leads to where it is listed
  pub start_is : (e d : ℕ) → IsActive e → lines_at ps d ≡ (ends ps d, line_from ps d) ∷ [] → least_of (line_from ps d) ≡ e → start_of ps e ≡ d
  start_is e d active at least =
      let i : In e (line_from ps d) = subst (λ z. In z (line_from ps d)) least (least_on d) in
      let l : Listed d (ends ps d, line_from ps d) = listed_at d at in
      let w : Way e = way e active in
      elim w.found [
        | inl p ↦ sym w.is ∙ same_head w.start d e (ends ps w.start, line_from ps w.start) (ends ps d, line_from ps d) (listed_at w.start (list_path w.start p.1 p.0)) l p.2 i
        | inr c ↦ (
            let closed : IsBackward ps (line_from ps e) = backward e (inr c.2) in
            let there : In d (line_from ps e) = back_to d e (line_from ps e) closed i (head_in e) in
            let ended : ends ps d ≡ true = elim (ended_or_first e d there) [ inl k ↦ subst (λ z. ends ps z ≡ true) (sym k) c.1 | inr n ↦ n ] in
            let a : d ≤ e = l.least ended e i in
            let b : e ≤ d = subst (λ z. z ≤ d) least (least_below d d (head_in d)) in
            sym w.is ∙ (c.0 ∙ (let q : e ≡ d = omega arith in q)))
      ]

  -- what is listed from the head of a listed line
  pub relist : (d : ℕ) (l : Bool × List ℕ) → Listed d l → lines_at ps d ≡ (ends ps d, line_from ps d) ∷ []
  relist d l h =
      elim (cases_Bool (ends ps d)) [
        | inl e ↦ elim h.entered [
          | inl n ↦ absurd (both_ways (ends ps d) n e)
          | inr y ↦ list_cycle d e y (h.least e)
        ]
        | inr e ↦ elim h.begun [
          | inl b ↦ list_path d b e
          | inr n ↦ absurd (both_ways (ends ps d) e n)
        ]
      ]

  -- the way back leads to an edge that begins or ends a pair too
  pub start_active : (e : ℕ) → IsActive e → IsActive (start_of ps e)
  start_active e active =
      let w : Way e = way e active in
      subst IsActive w.is (elim w.found [ inl p ↦ inl p.1 | inr c ↦ inr (subst (λ z. ends ps z ≡ true) (sym c.0) c.1) ])
