-- Classes: the vertices of a loop are of one class, a class is named by a vertex that chains lead to, and chains do not leave it.
use Rattle.std.proofs.Common.{◌≡◌, ℕ, ◌<◌, ◌≤◌, Bool, true, false, cond, ◌&&◌, ◌||◌, List, [], ◌∷◌, ◌++◌, map, refl, sym, ◌∙◌, ap, subst, inl, inr, arith, eqb, leb}
use Rattle.std.proofs.lemmas.Bool.{cases_Bool, eq-eqb, and_parts, and_from, leb-true, leb-false}
use Rattle.iso_defs.specs.Lists.{is_in, least_of}
use Rattle.triangle_laws.proofs.Lists.{In, In-left, In-map, in_map, in_any, any_in}
use Rattle.triangle_laws.proofs.Fans.{in_is_in}
use Rattle.part_laws.specs.Loops.{Loop}
use Rattle.part_laws.specs.Classes.{class_of, share_loop, IsChain, IsLeastChained}

-- the least of a list is in it, and no more than any in it
least_in : (x : ℕ) (xs : List ℕ) → In (least_of (x ∷ xs)) (x ∷ xs)
least_in x [] = inl refl
least_in x (y ∷ ys) =
    elim (leb x (least_of (y ∷ ys))) as (λ b. In (cond b x (least_of (y ∷ ys))) (x ∷ y ∷ ys)) [ true ↦ inl refl | false ↦ inr (least_in y ys) ]

least_le : (x : ℕ) (xs : List ℕ) (y : ℕ) → In y (x ∷ xs) → least_of (x ∷ xs) ≤ y
least_le x [] y (inl e) = omega arith
least_le x [] y (inr i) = absurd i
least_le x (z ∷ zs) y i = go (leb x (least_of (z ∷ zs))) refl i (λ j. least_le z zs y j)
  where
    go : (b : Bool) → leb x (least_of (z ∷ zs)) ≡ b → In y (x ∷ z ∷ zs) → (In y (z ∷ zs) → least_of (z ∷ zs) ≤ y) → cond b x (least_of (z ∷ zs)) ≤ y
    go true h (inl e) k = omega arith
    go true h (inr j) k = let m : least_of (z ∷ zs) ≤ y = k j in let l : x ≤ least_of (z ∷ zs) = leb-true _ _ h in omega arith
    go false h (inl e) k = let l : least_of (z ∷ zs) < x = leb-false _ _ h in omega arith
    go false h (inr j) k = k j

pub least_found : (xs : List ℕ) (y : ℕ) → In y xs → In (least_of xs) xs × (least_of xs ≤ y)
least_found [] y i = absurd i
least_found (x ∷ xs) y i = (least_in x xs, least_le x xs y i)

pub is_in_from : (x : ℕ) (xs : List ℕ) → In x xs → is_in x xs ≡ true
is_in_from x xs i = any_in (λ y. eqb y x) xs x i (eq-eqb x x refl)

-- the class of a vertex after one loop more: the same, or the least class of a vertex of the loop
pub class_more : (l : Loop) (ls : List Loop) (v : ℕ) → is_in (class_of ls v) (map (class_of ls) l.1) ≡ true → class_of (l ∷ ls) v ≡ least_of (map (class_of ls) l.1)
unfolding class_of
class_more l ls v h = rw h refl

pub class_kept : (l : Loop) (ls : List Loop) (v : ℕ) → is_in (class_of ls v) (map (class_of ls) l.1) ≡ false → class_of (l ∷ ls) v ≡ class_of ls v
unfolding class_of
class_kept l ls v h = rw h refl

pub class_none : (v : ℕ) → class_of [] v ≡ v
unfolding class_of
class_none v = refl

class_same : (l : Loop) (ls : List Loop) (v w : ℕ) → class_of ls v ≡ class_of ls w → class_of (l ∷ ls) v ≡ class_of (l ∷ ls) w
class_same l ls v w e =
    elim (cases_Bool (is_in (class_of ls v) (map (class_of ls) l.1))) [
      | inl h ↦ class_more l ls v h ∙ sym (class_more l ls w (ap (λ k. is_in k (map (class_of ls) l.1)) (sym e) ∙ h))
      | inr h ↦ class_kept l ls v h ∙ (e ∙ sym (class_kept l ls w (ap (λ k. is_in k (map (class_of ls) l.1)) (sym e) ∙ h)))
    ]

-- the vertices of a loop are of one class
pub one_class : (ls : List Loop) (l : Loop) (v w : ℕ) → In l ls → In v l.1 → In w l.1 → class_of ls v ≡ class_of ls w
one_class [] l v w i a b = absurd i
one_class (k ∷ ls) l v w (inl e) a b =
    let there : (u : ℕ) → In u l.1 → is_in (class_of ls u) (map (class_of ls) k.1) ≡ true
    = λ u j. is_in_from (class_of ls u) (map (class_of ls) k.1) (in_map (class_of ls) u k.1 (subst (λ (m : Loop). In u m.1) e j)) in
    class_more k ls v (there v a) ∙ sym (class_more k ls w (there w b))
one_class (k ∷ ls) l v w (inr i) a b = class_same k ls v w (one_class ls l v w i a b)

-- what says the same of the vertices of each loop says the same of a vertex and its class
pub class_alike : {A : Type 0} (f : ℕ → A) (ls : List Loop) → ((l : Loop) (v w : ℕ) → In l ls → In v l.1 → In w l.1 → f v ≡ f w) → (v : ℕ) → f (class_of ls v) ≡ f v
class_alike f [] h v = ap f (class_none v)
class_alike f (l ∷ ls) h v =
    let before : (u : ℕ) → f (class_of ls u) ≡ f u = λ u. class_alike f ls (λ k a b i. h k a b (inr i)) u in
    elim (cases_Bool (is_in (class_of ls v) (map (class_of ls) l.1))) [
      | inr e ↦ ap f (class_kept l ls v e) ∙ before v
      | inl e ↦ (
          let i : In (class_of ls v) (map (class_of ls) l.1) = in_is_in (class_of ls v) (map (class_of ls) l.1) e in
          let u : (u : ℕ) × In u l.1 × (class_of ls v ≡ class_of ls u) = In-map (class_of ls) (class_of ls v) l.1 i in
          let k : In (least_of (map (class_of ls) l.1)) (map (class_of ls) l.1) = (least_found (map (class_of ls) l.1) (class_of ls v) i).0 in
          let w : (w : ℕ) × In w l.1 × (least_of (map (class_of ls) l.1) ≡ class_of ls w) = In-map (class_of ls) (least_of (map (class_of ls) l.1)) l.1 k in
          ap f (class_more l ls v e ∙ w.2) ∙ (before w.0 ∙ (h l w.0 u.0 (inl refl) w.1 u.1 ∙ (sym (before u.0) ∙ (ap f (sym u.2) ∙ before v)))))
    ]

-- a class is named by a vertex that is not greater
pub class_low : (ls : List Loop) (v : ℕ) → class_of ls v ≤ v
class_low [] v = let e : class_of [] v ≡ v = class_none v in omega arith
class_low (l ∷ ls) v =
    let before : class_of ls v ≤ v = class_low ls v in
    elim (cases_Bool (is_in (class_of ls v) (map (class_of ls) l.1))) [
      | inr e ↦ (let k : class_of (l ∷ ls) v ≡ class_of ls v = class_kept l ls v e in omega arith)
      | inl e ↦ (
          let i : In (class_of ls v) (map (class_of ls) l.1) = in_is_in (class_of ls v) (map (class_of ls) l.1) e in
          let k : least_of (map (class_of ls) l.1) ≤ class_of ls v = (least_found (map (class_of ls) l.1) (class_of ls v) i).1 in
          let q : class_of (l ∷ ls) v ≡ least_of (map (class_of ls) l.1) = class_more l ls v e in
          omega arith)
    ]

-- the class of a class is itself
pub class_again : (ls : List Loop) (v : ℕ) → class_of ls (class_of ls v) ≡ class_of ls v
class_again ls v = class_alike (class_of ls) ls (λ l a b i j k. one_class ls l a b i j k) v

-- two vertices of one loop
pub sharing : (ls : List Loop) (l : Loop) (v w : ℕ) → In l ls → In v l.1 → In w l.1 → share_loop ls v w ≡ true
sharing ls l v w i a b = any_in (λ (l : Loop). is_in v l.1 && is_in w l.1) ls l i (and_from _ _ (is_in_from v l.1 a) (is_in_from w l.1 b))

shared : (ls : List Loop) (v w : ℕ) → share_loop ls v w ≡ true → (l : Loop) × In l ls × In v l.1 × In w l.1
shared ls v w h =
    let r : (l : Loop) × In l ls × ((is_in v l.1 && is_in w l.1) ≡ true) = in_any (λ (l : Loop). is_in v l.1 && is_in w l.1) ls h in
    let p : (is_in v r.0.1 ≡ true) × (is_in w r.0.1 ≡ true) = and_parts (is_in v r.0.1) (is_in w r.0.1) r.2 in
    (r.0, r.1, in_is_in v r.0.1 p.0, in_is_in w r.0.1 p.1)

-- chains of more loops
share_more : (l : Loop) (ls : List Loop) (v w : ℕ) → share_loop ls v w ≡ true → share_loop (l ∷ ls) v w ≡ true
share_more l ls v w h = go (is_in v l.1 && is_in w l.1)
  where
    go : (b : Bool) → (b || share_loop ls v w) ≡ true
    go true = refl
    go false = h

chain_more : (l : Loop) (ls : List Loop) (v : ℕ) (us : List ℕ) (w : ℕ) → IsChain ls v us w → IsChain (l ∷ ls) v us w
chain_more l ls v [] w h = h
chain_more l ls v (u ∷ us) w h = (share_more l ls v u h.0, chain_more l ls u us w h.1)

abbrev Chained : List Loop → ℕ → ℕ → Type 0
Chained ls v w = (us : List ℕ) × IsChain ls v us w

chain_joins : (ls : List Loop) (v : ℕ) (us : List ℕ) (w x : ℕ) → IsChain ls v us w → Chained ls w x → Chained ls v x
chain_joins ls v [] w x h k = (k.0, subst (λ z. IsChain ls z k.0 x) (sym h) k.1)
chain_joins ls v (u ∷ us) w x h k = let r : Chained ls u x = chain_joins ls u us w x h.1 k in (u ∷ r.0, (h.0, r.1))

share_swap : (ls : List Loop) (v w : ℕ) → share_loop ls v w ≡ true → share_loop ls w v ≡ true
share_swap ls v w h = let r : (l : Loop) × In l ls × In v l.1 × In w l.1 = shared ls v w h in sharing ls r.0 w v r.1 r.3 r.2

chain_back : (ls : List Loop) (v : ℕ) (us : List ℕ) (w : ℕ) → IsChain ls v us w → Chained ls w v
chain_back ls v [] w h = ([], sym h)
chain_back ls v (u ∷ us) w h =
    let r : Chained ls w u = chain_back ls u us w h.1 in
    chain_joins ls w r.0 u v r.1 (v ∷ [], (share_swap ls v u h.0, refl))

-- a chain leads to the class
class_reached : (ls : List Loop) (v : ℕ) → Chained ls v (class_of ls v)
class_reached [] v = ([], sym (class_none v))
class_reached (l ∷ ls) v =
    let before : (u : ℕ) → Chained (l ∷ ls) u (class_of ls u) = λ u. let r : Chained ls u (class_of ls u) = class_reached ls u in (r.0, chain_more l ls u r.0 (class_of ls u) r.1) in
    elim (cases_Bool (is_in (class_of ls v) (map (class_of ls) l.1))) [
      | inr e ↦ subst (λ z. Chained (l ∷ ls) v z) (sym (class_kept l ls v e)) (before v)
      | inl e ↦ (
          let i : In (class_of ls v) (map (class_of ls) l.1) = in_is_in (class_of ls v) (map (class_of ls) l.1) e in
          let u : (u : ℕ) × In u l.1 × (class_of ls v ≡ class_of ls u) = In-map (class_of ls) (class_of ls v) l.1 i in
          let k : In (least_of (map (class_of ls) l.1)) (map (class_of ls) l.1) = (least_found (map (class_of ls) l.1) (class_of ls v) i).0 in
          let w : (w : ℕ) × In w l.1 × (least_of (map (class_of ls) l.1) ≡ class_of ls w) = In-map (class_of ls) (least_of (map (class_of ls) l.1)) l.1 k in
          let c1 : Chained (l ∷ ls) v (class_of ls u.0) = subst (λ z. Chained (l ∷ ls) v z) u.2 (before v) in
          let c2 : Chained (l ∷ ls) (class_of ls u.0) u.0 = chain_back (l ∷ ls) u.0 (before u.0).0 (class_of ls u.0) (before u.0).1 in
          let c3 : Chained (l ∷ ls) u.0 (class_of ls w.0) = (w.0 ∷ (before w.0).0, (sharing (l ∷ ls) l u.0 w.0 (inl refl) u.1 w.1, (before w.0).1)) in
          let c4 : Chained (l ∷ ls) (class_of ls u.0) (class_of ls w.0) = chain_joins (l ∷ ls) (class_of ls u.0) c2.0 u.0 (class_of ls w.0) c2.1 c3 in
          subst (λ z. Chained (l ∷ ls) v z) (sym (class_more l ls v e ∙ w.2)) (chain_joins (l ∷ ls) v c1.0 (class_of ls u.0) (class_of ls w.0) c1.1 c4))
    ]

-- a chain stays in its class
chain_class : (ls : List Loop) (v : ℕ) (us : List ℕ) (w : ℕ) → IsChain ls v us w → class_of ls v ≡ class_of ls w
chain_class ls v [] w h = ap (class_of ls) h
chain_class ls v (u ∷ us) w h =
    let r : (l : Loop) × In l ls × In v l.1 × In u l.1 = shared ls v u h.0 in
    one_class ls r.0 v u r.1 r.2 r.3 ∙ chain_class ls u us w h.1

-- a class is the least vertex to which chains lead
pub class_is : (ls : List Loop) (v : ℕ) → IsLeastChained ls v (class_of ls v)
class_is ls v = record {
  reached = class_reached ls v;
  least = λ w us h. let e : class_of ls v ≡ class_of ls w = chain_class ls v us w h in let l : class_of ls w ≤ w = class_low ls w in omega arith;
}

-- and the only one
pub least_chained_unique : (ls : List Loop) (v k : ℕ) → IsLeastChained ls v k → class_of ls v ≡ k
least_chained_unique ls v k h =
    let c : IsLeastChained ls v (class_of ls v) = class_is ls v in
    let a : class_of ls v ≤ k = c.least k h.reached.0 h.reached.1 in
    let b : k ≤ class_of ls v = h.least (class_of ls v) c.reached.0 c.reached.1 in
    omega arith

-- in one class are those that a chain joins
pub class_chained : (ls : List Loop) (v w : ℕ) → class_of ls v ≡ class_of ls w → (us : List ℕ) × IsChain ls v us w
class_chained ls v w e =
    let a : Chained ls v (class_of ls v) = class_reached ls v in
    let b : Chained ls w (class_of ls w) = class_reached ls w in
    let c : Chained ls (class_of ls w) w = chain_back ls w b.0 (class_of ls w) b.1 in
    chain_joins ls v a.0 (class_of ls w) w (subst (λ z. IsChain ls v a.0 z) e a.1) c

pub chained_class : (ls : List Loop) (v : ℕ) (us : List ℕ) (w : ℕ) → IsChain ls v us w → class_of ls v ≡ class_of ls w
chained_class ls v us w h = chain_class ls v us w h

-- What says the same of the vertices of each loop, and gives each vertex one of its class that is not greater, gives it its class.
pub class_told : (ls : List Loop) (f : ℕ → ℕ) → ((l : Loop) (v w : ℕ) → In l ls → In v l.1 → In w l.1 → f v ≡ f w)
    → ((v : ℕ) → f v ≤ v) → ((v : ℕ) → class_of ls (f v) ≡ class_of ls v) → (v : ℕ) → class_of ls v ≡ f v
class_told ls f same low home v =
    let a : f (class_of ls v) ≡ f v = class_alike f ls same v in
    let b : f (class_of ls v) ≤ class_of ls v = low (class_of ls v) in
    let c : class_of ls (f v) ≡ class_of ls v = home v in
    let d : class_of ls (f v) ≤ f v = class_low ls (f v) in
    omega arith

pub sharing_class : (ls : List Loop) (v w : ℕ) → share_loop ls v w ≡ true → class_of ls v ≡ class_of ls w
sharing_class ls v w h = let r : (l : Loop) × In l ls × In v l.1 × In w l.1 = shared ls v w h in one_class ls r.0 v w r.1 r.2 r.3

-- what is one class stays one class where there are more loops
share_joined : (ls ks : List Loop) (v w : ℕ) → share_loop ls v w ≡ true → share_loop (ls ++ ks) v w ≡ true
share_joined ls ks v w h = let r : (l : Loop) × In l ls × In v l.1 × In w l.1 = shared ls v w h in sharing (ls ++ ks) r.0 v w (In-left r.0 ls ks r.1) r.2 r.3

chain_joined : (ls ks : List Loop) (v : ℕ) (us : List ℕ) (w : ℕ) → IsChain ls v us w → IsChain (ls ++ ks) v us w
chain_joined ls ks v [] w h = h
chain_joined ls ks v (u ∷ us) w h = (share_joined ls ks v u h.0, chain_joined ls ks u us w h.1)

pub class_grows : (ls ks : List Loop) (v w : ℕ) → class_of ls v ≡ class_of ls w → class_of (ls ++ ks) v ≡ class_of (ls ++ ks) w
class_grows ls ks v w e =
    let c : (us : List ℕ) × IsChain ls v us w = class_chained ls v w e in
    chained_class (ls ++ ks) v c.0 w (chain_joined ls ks v c.0 w c.1)
