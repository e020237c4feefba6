-- The listed lines, edge by edge.
use Rattle.std.proofs.Common.{◌≡◌, ℕ, ◌+◌, ◌<◌, ◌≤◌, Bool, true, false, cond, List, [], ◌∷◌, ◌++◌, refl, sym, ◌∙◌, ap, subst, inl, inr, arith, eqb, zero-add}
use Rattle.std.specs.List.{filter, flat_map, list_any, range_with_len}
use Rattle.std.proofs.lemmas.Bool.{cases_Bool, cases_lt, eqb-true, eq-eqb, both_ways}
use Rattle.iso_defs.specs.Lists.{below, begins, ends, is_in, least_of}
use Rattle.iso_defs.specs.Grid.{Grid, name_bound}
use Rattle.iso_defs.specs.Contours.{line_from, lines_at, all_lines, lines_of_least}
use Rattle.iso_defs.proofs.Ranges.{range_append}
use Rattle.triangle_laws.proofs.Lists.{In, In-flat_map, in_flat_map, In-filter, in_filter, in_any, any_in}
use Rattle.triangle_laws.proofs.Counts.{Distinct}
use Rattle.triangle_laws.proofs.Fans.{in_is_in}
use Rattle.triangle_laws.proofs.FanWalk.{IsSingle, next_in, ends_in}
use Rattle.mesh_laws.proofs.Cells.{range_at_least, range_in, Distinct-range}
use Rattle.mesh_laws.proofs.Rows.{filter_flat}
use Rattle.plane_laws.specs.Lines.{start_of}
use Rattle.plane_laws.proofs.Homes.{IsActive, Listed, listed, same_head, Home, home, start_is, least_on, least_below, active_on}

pub filter_none : {A : Type 0} (p : A → Bool) (xs : List A) → ((x : A) → In x xs → p x ≡ true → ⊥) → filter p xs ≡ []
filter_none p [] h = refl
filter_none p (x ∷ xs) h =
    elim (cases_Bool (p x)) [
      | inl e ↦ absurd (h x (inl refl) e)
      | inr e ↦ ap (λ b. cond b (x ∷ filter p xs) (filter p xs)) e ∙ filter_none p xs (λ y i. h y (inr i))
    ]

pub flat_none : {A B : Type 0} (f : A → List B) (xs : List A) → ((x : A) → In x xs → f x ≡ []) → flat_map f xs ≡ []
flat_none f [] h = refl
flat_none f (x ∷ xs) h = ap (λ l. l ++ flat_map f xs) (h x (inl refl)) ∙ flat_none f xs (λ y i. h y (inr i))

append_nil : {A : Type 0} (xs : List A) → xs ++ [] ≡ xs
append_nil [] = refl
append_nil (x ∷ xs) = ap (λ l. x ∷ l) (append_nil xs)

-- where one part alone is not empty
pub one_part : {B : Type 0} (f : ℕ → List B) (xs : List ℕ) (d : ℕ) → Distinct xs → In d xs → ((x : ℕ) → (x ≡ d → ⊥) → f x ≡ []) → flat_map f xs ≡ f d
one_part f [] d dist i h = absurd i
one_part f (x ∷ xs) d dist (inl e) h =
    ap (λ l. f x ++ l) (flat_none f xs (λ y j. h y (λ q. dist.0 (subst (λ z. In z xs) (q ∙ e) j))))
    ∙ (append_nil (f x) ∙ ap f (sym e))
one_part f (x ∷ xs) d dist (inr i) h =
    ap (λ l. l ++ flat_map f xs) (h x (λ q. dist.0 (subst (λ z. In z xs) (sym q) i))) ∙ one_part f xs d dist.1 i h

pub flat_append : {A B : Type 0} (f : A → List B) (xs ys : List A) → flat_map f (xs ++ ys) ≡ flat_map f xs ++ flat_map f ys
flat_append f [] ys = refl
flat_append f (x ∷ xs) ys = ap (λ l. f x ++ l) (flat_append f xs ys) ∙ sym (assoc (f x) (flat_map f xs) (flat_map f ys))
  where
    assoc : {C : Type 0} (us vs ws : List C) → (us ++ vs) ++ ws ≡ us ++ (vs ++ ws)
    assoc [] vs ws = refl
    assoc (u ∷ us) vs ws = ap (λ l. u ∷ l) (assoc us vs ws)

pub below_in : (n x : ℕ) → x < n → In x (below n)
below_in n x h = range_in 0 n x (omega arith) (subst (λ m. x < m) (sym (zero-add n)) h)

pub in_below : (n x : ℕ) → In x (below n) → x < n
in_below n x i = subst (λ m. x < m) (zero-add n) (range_at_least 0 n x i).1

-- the numbers below one more
pub flat_more : {B : Type 0} (f : ℕ → List B) (n : ℕ) → flat_map f (below (n + 1)) ≡ flat_map f (below n) ++ f n
flat_more f n =
    ap (flat_map f) (range_append 0 n 1)
    ∙ (flat_append f (below n) (range_with_len (0 + n) 1)
    ∙ ap (λ l. flat_map f (below n) ++ l) (append_nil (f (0 + n)) ∙ ap f (zero-add n)))

-- whether a line of the list holds the edge
abbrev pub covered : List (Bool × List ℕ) → ℕ → Bool
covered ls n = list_any (λ (l : Bool × List ℕ). is_in n l.1) ls

module _ (g : Grid) (ps : List (ℕ × ℕ)) (single : IsSingle ps) (low : (a b : ℕ) → In (a, b) ps → (a < name_bound g) × (b < name_bound g)) where
  abbrev has_least : ℕ → Bool × List ℕ → Bool
  has_least e l = eqb (least_of l.1) e

  active_low : (e : ℕ) → IsActive ps single e → e < name_bound g
  active_low e (inl h) = (low e _ (next_in ps e h)).0
  active_low e (inr h) = let r : (b : ℕ) × In (b, e) ps = ends_in ps e h in (low r.0 e r.1).1

  -- a line of the list, by its least edge
  pub record Found (e : ℕ) (l : Bool × List ℕ) : Type 0 where
    pub head : ℕ
    pub is : Listed ps single head l
    pub holds : In e (line_from ps head)
    pub least : least_of (line_from ps head) ≡ e

  line_is : (d : ℕ) (l : Bool × List ℕ) → Listed ps single d l → l.1 ≡ line_from ps d
  line_is d l h = ap (λ (z : Bool × List ℕ). z.1) h.is

  holds_at : (d e : ℕ) (l : Bool × List ℕ) → Listed ps single d l → has_least e l ≡ true → (In e (line_from ps d)) × (least_of (line_from ps d) ≡ e)
  holds_at d e l k h =
      let m : least_of (line_from ps d) ≡ e = ap least_of (sym (line_is d l k)) ∙ eqb-true _ _ h in
      (subst (λ z. In z (line_from ps d)) m (least_on ps single d), m)

  pub found : (e : ℕ) (l : Bool × List ℕ) → In l (lines_of_least g ps e) → Found e l
  found e l i =
      let r : In l (all_lines g ps) × (has_least e l ≡ true) = In-filter (has_least e) l (all_lines g ps) i in
      let w : (d : ℕ) × In d (below (name_bound g)) × In l (lines_at ps d) = In-flat_map (lines_at ps) l (below (name_bound g)) r.0 in
      let k : Listed ps single w.0 l = listed ps single w.0 l w.2 in
      let h : (In e (line_from ps w.0)) × (least_of (line_from ps w.0) ≡ e) = holds_at w.0 e l k r.1 in
      record { head = w.0; is = k; holds = h.0; least = h.1 }

  pub none_of_least : (e : ℕ) → ((l : Bool × List ℕ) → Found e l → ⊥) → lines_of_least g ps e ≡ []
  none_of_least e h = filter_none (has_least e) (all_lines g ps) (λ l i t. h l (found e l (in_filter (has_least e) l (all_lines g ps) i t)))

  pub one_of_least : (e d : ℕ) → lines_at ps d ≡ (ends ps d, line_from ps d) ∷ [] → least_of (line_from ps d) ≡ e
      → lines_of_least g ps e ≡ (ends ps d, line_from ps d) ∷ []
  one_of_least e d at least =
      let l : Bool × List ℕ = (ends ps d, line_from ps d) in
      let k : Listed ps single d l = listed ps single d l (subst (λ z. In l z) (sym at) (inl refl)) in
      let t : has_least e l ≡ true = eq-eqb _ _ least in
      let here : In e (line_from ps d) = subst (λ z. In z (line_from ps d)) least (least_on ps single d) in
      let inside : d < name_bound g = active_low d k.begun in
      filter_flat (has_least e) (lines_at ps) (below (name_bound g))
      ∙ (one_part (λ x. filter (has_least e) (lines_at ps x)) (below (name_bound g)) d (Distinct-range 0 (name_bound g)) (below_in (name_bound g) d inside)
      (λ x ne. filter_none (has_least e) (lines_at ps x)
      (λ m i h. (let n : Listed ps single x m = listed ps single x m i in ne (same_head ps single x d e m l n k (holds_at x e m n h).0 here))))
      ∙ (ap (filter (has_least e)) at ∙ ap (λ b. cond b (l ∷ []) []) t))

  pub covers : (ls : List (Bool × List ℕ)) (n : ℕ) → covered ls n ≡ true → (l : Bool × List ℕ) × In l ls × In n l.1
  covers ls n h =
      let r : (l : Bool × List ℕ) × In l ls × (is_in n l.1 ≡ true) = in_any (λ (l : Bool × List ℕ). is_in n l.1) ls h in
      (r.0, r.1, in_is_in n r.0.1 r.2)

  pub is_covered : (ls : List (Bool × List ℕ)) (n : ℕ) (l : Bool × List ℕ) → In l ls → In n l.1 → covered ls n ≡ true
  is_covered ls n l i j = any_in (λ (l : Bool × List ℕ). is_in n l.1) ls l i (any_in (λ y. eqb y n) l.1 n j (eq-eqb n n refl))

  -- an edge that is on no line yet is the least of its line
  pub new_line : (e : ℕ) (ls : List (Bool × List ℕ)) → ls ≡ flat_map (lines_of_least g ps) (below e) → IsActive ps single e → covered ls e ≡ false
      → lines_of_least g ps e ≡ (ends ps (start_of ps e), line_from ps (start_of ps e)) ∷ []
  new_line e ls is active out =
      let h : Home ps single e = home ps single e active in
      let d : ℕ = h.head in
      let l : Bool × List ℕ = (ends ps d, line_from ps d) in
      let m : ℕ = least_of (line_from ps d) in
      let upper : m ≤ e = least_below ps single d e h.holds in
      let least : m ≡ e = elim (cases_lt m e) [
        | inl low ↦ absurd (both_ways (covered ls e) out (is_covered ls e l
            (subst (λ z. In l z) (sym is) (in_flat_map (lines_of_least g ps) l m (below e) (below_in e m low) (subst (λ z. In l z) (sym (one_of_least m d h.at refl)) (inl refl)))) h.holds))
        | inr high ↦ omega arith
      ] in
      one_of_least e d h.at least ∙ ap (λ z. (ends ps z, line_from ps z) ∷ []) (sym (start_is ps single e d active h.at least))

  -- on an edge that is on a line already no other begins
  pub old_line : (e : ℕ) (ls : List (Bool × List ℕ)) → ls ≡ flat_map (lines_of_least g ps) (below e) → covered ls e ≡ true → lines_of_least g ps e ≡ []
  old_line e ls is inside =
      let c : (l : Bool × List ℕ) × In l ls × In e l.1 = covers ls e inside in
      let w : (m : ℕ) × In m (below e) × In c.0 (lines_of_least g ps m) = In-flat_map (lines_of_least g ps) c.0 (below e) (subst (λ z. In c.0 z) is c.1) in
      let f : Found w.0 c.0 = found w.0 c.0 w.2 in
      let lower : w.0 < e = in_below e w.0 w.1 in
      none_of_least e (λ l k.
      let same : f.head ≡ k.head = same_head ps single f.head k.head e c.0 l f.is k.is (subst (λ z. In e z) (line_is f.head c.0 f.is) c.2) k.holds in
      let q : w.0 ≡ e = sym f.least ∙ (ap (λ z. least_of (line_from ps z)) same ∙ k.least) in
      omega arith)

  -- nor on an edge that neither begins nor ends a segment
  pub no_line : (e : ℕ) → begins ps e ≡ false → ends ps e ≡ false → lines_of_least g ps e ≡ []
  no_line e b n =
      none_of_least e (λ l k. elim (active_on ps single k.head e l k.is k.holds) [
        | inl h ↦ both_ways (begins ps e) b h
        | inr h ↦ both_ways (ends ps e) n h
      ])
