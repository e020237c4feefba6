-- What labels tell of classes, and one loop more that gets a label.
use Rattle.std.proofs.Common.{◌≡◌, ◌≢◌, ℕ, ◌≤◌, true, false, cond, List, [], ◌∷◌, ◌++◌, map, length, slice_index, refl, sym, ◌∙◌, ap, subst, inl, inr, arith, eqb}
use Rattle.std.specs.List.{AllByRecursion}
use Rattle.std.proofs.lemmas.Bool.{cases_Bool, both_ways, eq-eqb, ne_eqb}
use Rattle.std.proofs.lemmas.List.{map-append}
use Rattle.iso_defs.specs.Lists.{is_in}
use Rattle.triangle_laws.proofs.Lists.{In, In-append, In-right, In-map, in_map, any_in, in_any}
use Rattle.triangle_laws.proofs.Fans.{in_is_in}
use Rattle.part_laws.specs.Loops.{AreLong, Loop}
use Rattle.part_laws.specs.Classes.{class_of}
use Rattle.part_laws.specs.Labels.{IsRooted, unlabelled}
use Rattle.part_laws.specs.Meets.{HasLabel, IsLabelling, IsNext, is_met, least_joined, pair_loop, relabelled}
use Rattle.part_laws.proofs.ClassLaws.{class_alike, class_grows, is_in_from, one_class}
use Rattle.part_laws.proofs.Edges.{at_in}

-- what is said of each element is said of all
all_from : {A : Type 0} (P : A → Type 0) (xs : List A) → ((x : A) → In x xs → P x) → AllByRecursion P xs
all_from P [] h = tt
all_from P (x ∷ xs) h = (h x (inl refl), all_from P xs (λ y i. h y (inr i)))

first_in : (vs : List ℕ) → 3 ≤ length vs → In (slice_index vs 0) vs
first_in [] h = absurd (omega arith)
first_in (v ∷ vs) h = inl refl

pub met_in : (xs : List (ℕ × Loop)) (x : ℕ × Loop) (v : ℕ) → In x xs → In v x.1.1 → is_met xs v ≡ true
met_in xs x v i j = any_in (λ (x : ℕ × Loop). is_in v x.1.1) xs x i (is_in_from v x.1.1 j)

pub in_met : (xs : List (ℕ × Loop)) (v : ℕ) → is_met xs v ≡ true → (x : ℕ × Loop) × In x xs × In v x.1.1
in_met xs v h = let r = in_any (λ (x : ℕ × Loop). is_in v x.1.1) xs h in (r.0, r.1, in_is_in v r.0.1.1 r.2)

module _ (xs : List (ℕ × Loop)) (ps : List (ℕ × ℕ)) (label : ℕ → ℕ) (h : IsLabelling xs ps label) where
  abbrev ls : List Loop
  ls = unlabelled xs

  pub root : ℕ → ℕ
  root a = class_of ls (h.began a)

  pub joined_in : (x : ℕ × Loop) (v : ℕ) → In x xs → In v x.1.1 → least_joined ps (label v) ≡ least_joined ps x.0
  joined_in x v i j =
      at_in (λ v. least_joined ps (label v) ≡ least_joined ps x.0) x.1.1
      (at_in (λ (x : ℕ × Loop). AllByRecursion (λ v. least_joined ps (label v) ≡ least_joined ps x.0) x.1.1) xs h.joined x i) v j

  pub own_in : (x : ℕ × Loop) (v : ℕ) → In x xs → In v x.1.1 → class_of ls v ≡ class_of ls (h.began (label v))
  own_in x v i j =
      at_in (λ v. class_of ls v ≡ class_of ls (h.began (label v))) x.1.1
      (at_in (λ (x : ℕ × Loop). AllByRecursion (λ v. class_of ls v ≡ class_of ls (h.began (label v))) x.1.1) xs h.own x i) v j

  pub meets_in : (p : ℕ × ℕ) → In p ps → class_of ls (h.began p.0) ≡ class_of ls (h.began p.1)
  meets_in p i = at_in (λ (p : ℕ × ℕ). class_of ls (h.began p.0) ≡ class_of ls (h.began p.1)) ps h.meets p i

  -- vertices of one class have labels that pairs join
  pub one_joined : (v w : ℕ) → class_of ls v ≡ class_of ls w → least_joined ps (label v) ≡ least_joined ps (label w)
  one_joined v w e =
      let f : ℕ → ℕ = λ v. least_joined ps (label v) in
      let same : (l : Loop) (a b : ℕ) → In l ls → In a l.1 → In b l.1 → f a ≡ f b
      = λ l a b i x y.
      (let r = In-map (λ (x : ℕ × Loop). x.1) l xs i in
      joined_in r.0 a r.1 (subst (λ (k : Loop). In a k.1) r.2 x) ∙ sym (joined_in r.0 b r.1 (subst (λ (k : Loop). In b k.1) r.2 y))) in
      sym (class_alike f ls same v) ∙ (ap f e ∙ class_alike f ls same w)

  -- labels that pairs join began in one class
  pub one_root : (a b : ℕ) → least_joined ps a ≡ least_joined ps b → class_of ls (h.began a) ≡ class_of ls (h.began b)
  unfolding least_joined
  one_root a b e =
      let g : ℕ → ℕ = λ a. class_of ls (h.began a) in
      let same : (l : Loop) (v w : ℕ) → In l (map pair_loop ps) → In v l.1 → In w l.1 → g v ≡ g w
      = λ l v w i x y.
      (let r = In-map pair_loop l ps i in
      one r.0 (meets_in r.0 r.1) v w (subst (λ (k : Loop). In v k.1) r.2 x) (subst (λ (k : Loop). In w k.1) r.2 y)) in
      sym (class_alike g (map pair_loop ps) same a) ∙ (ap g e ∙ class_alike g (map pair_loop ps) same b)
    where
      one : (p : ℕ × ℕ) → class_of ls (h.began p.0) ≡ class_of ls (h.began p.1) → (v w : ℕ) → In v (p.0 ∷ p.1 ∷ []) → In w (p.0 ∷ p.1 ∷ [])
          → class_of ls (h.began v) ≡ class_of ls (h.began w)
      one p e v w (inl a) (inl b) = ap (λ z. class_of ls (h.began z)) (a ∙ sym b)
      one p e v w (inl a) (inr (inl b)) = ap (λ z. class_of ls (h.began z)) a ∙ (e ∙ ap (λ z. class_of ls (h.began z)) (sym b))
      one p e v w (inr (inl a)) (inl b) = ap (λ z. class_of ls (h.began z)) a ∙ (sym e ∙ ap (λ z. class_of ls (h.began z)) (sym b))
      one p e v w (inr (inl a)) (inr (inl b)) = ap (λ z. class_of ls (h.began z)) (a ∙ sym b)
      one p e v w (inr (inr z)) y = absurd z
      one p e v w (inl a) (inr (inr z)) = absurd z
      one p e v w (inr (inl a)) (inr (inr z)) = absurd z

  -- and vertices whose labels pairs join are of one class
  pub joined_one : (v w : ℕ) → is_met xs v ≡ true → is_met xs w ≡ true → least_joined ps (label v) ≡ least_joined ps (label w) → class_of ls v ≡ class_of ls w
  joined_one v w m n e =
      let x = in_met xs v m in
      let y = in_met xs w n in
      own_in x.0 v x.1 x.2 ∙ (one_root (label v) (label w) e ∙ sym (own_in y.0 w y.1 y.2))

  -- a loop's class is that of the vertex that its label began at
  pub rooted : AreLong ls → IsRooted xs (λ a. class_of ls (h.began a))
  rooted long =
      all_from (λ (x : ℕ × Loop). class_of ls (slice_index x.1.1 0) ≡ class_of ls (h.began x.0)) xs
      (λ x i.
      let j : In (slice_index x.1.1 0) x.1.1 = first_in x.1.1 (at_in (λ (l : Loop). 3 ≤ length l.1) ls long x.1 (in_map (λ (x : ℕ × Loop). x.1) x xs i)) in
      own_in x (slice_index x.1.1 0) i j ∙ one_root (label (slice_index x.1.1 0)) x.0 (joined_in x (slice_index x.1.1 0) i j))

pub none_labelled : (label : ℕ → ℕ) → IsLabelling [] [] label
none_labelled label = record { began = λ a. a; joined = tt; own = tt; meets = tt }

-- more pairs join no less
pub joined_grows : (ps qs : List (ℕ × ℕ)) (a b : ℕ) → least_joined ps a ≡ least_joined ps b → least_joined (ps ++ qs) a ≡ least_joined (ps ++ qs) b
unfolding least_joined
joined_grows ps qs a b e =
    let m : map pair_loop (ps ++ qs) ≡ map pair_loop ps ++ map pair_loop qs = map-append pair_loop ps qs in
    rw m (class_grows (map pair_loop ps) (map pair_loop qs) a b e)

module _ (xs : List (ℕ × Loop)) (ps qs : List (ℕ × ℕ)) (label : ℕ → ℕ) (l : Loop) (a : ℕ) (h : IsLabelling xs ps label) (next : IsNext xs ps qs label l a) (long : 3 ≤ length l.1) where
  abbrev xs' : List (ℕ × Loop)
  xs' = xs ++ (a, l) ∷ []

  abbrev ps' : List (ℕ × ℕ)
  ps' = ps ++ qs

  abbrev label' : ℕ → ℕ
  label' = relabelled label a l

  abbrev old : List Loop
  old = unlabelled xs

  abbrev new : List Loop
  new = unlabelled xs'

  new_is : new ≡ old ++ l ∷ []
  new_is = map-append (λ (x : ℕ × Loop). x.1) xs ((a, l) ∷ [])

  grows : (v w : ℕ) → class_of old v ≡ class_of old w → class_of new v ≡ class_of new w
  grows v w e = subst (λ ks. class_of ks v ≡ class_of ks w) (sym new_is) (class_grows old (l ∷ []) v w e)

  one : (v w : ℕ) → In v l.1 → In w l.1 → class_of new v ≡ class_of new w
  one v w i j = one_class new l v w (subst (λ ks. In l ks) (sym new_is) (In-right l old (l ∷ []) (inl refl))) i j

  inside : (v : ℕ) → In v l.1 → label' v ≡ a
  inside v i = ap (λ b. cond b a (label v)) (is_in_from v l.1 i)

  outside : (v : ℕ) → is_in v l.1 ≡ false → label' v ≡ label v
  outside v e = ap (λ b. cond b a (label v)) e

  joined' : (x : ℕ × Loop) (v : ℕ) → In x xs' → In v x.1.1 → least_joined ps' (label' v) ≡ least_joined ps' x.0
  joined' x v i j =
      elim (In-append x xs ((a, l) ∷ []) i) [
        | inl k ↦ (
            let e : least_joined ps' (label v) ≡ least_joined ps' x.0 = joined_grows ps qs (label v) x.0 (joined_in xs ps label h x v k j) in
            elim (cases_Bool (is_in v l.1)) [
              | inl m ↦ ap (least_joined ps') (inside v (in_is_in v l.1 m)) ∙ (sym (next.joined v m (met_in xs x v k j)) ∙ e)
              | inr m ↦ ap (least_joined ps') (outside v m) ∙ e
            ])
        | inr (inl e) ↦ ap (least_joined ps') (inside v (subst (λ (x : ℕ × Loop). In v x.1.1) e j) ∙ ap (λ (x : ℕ × Loop). x.0) (sym e))
        | inr (inr z) ↦ absurd z
      ]

  -- the class of a vertex of the loop that has a label
  of_label : (b : ℕ) (u : HasLabel xs label l b) → class_of new u.vertex ≡ class_of new (h.began b)
  of_label b u =
      let x = in_met xs u.vertex u.met in
      grows u.vertex (h.began b) (own_in xs ps label h x.0 u.vertex x.1 x.2 ∙ ap (λ z. class_of old (h.began z)) u.is)

  build : (began : ℕ → ℕ) → ((b : ℕ) (v : ℕ) → is_met xs v ≡ true → label v ≡ b → began b ≡ h.began b) → ((p : ℕ × ℕ) → In p ps → (began p.0 ≡ h.began p.0) × (began p.1 ≡ h.began p.1))
      → ((v : ℕ) → In v l.1 → class_of new v ≡ class_of new (began a)) → IsLabelling xs' ps' label'
  build began keep paired here = record {
    began = began;
    joined = all_from (λ (x : ℕ × Loop). AllByRecursion (λ v. least_joined ps' (label' v) ≡ least_joined ps' x.0) x.1.1) xs'
        (λ x i. all_from (λ v. least_joined ps' (label' v) ≡ least_joined ps' x.0) x.1.1 (λ v j. joined' x v i j));
    own = all_from (λ (x : ℕ × Loop). AllByRecursion (λ v. class_of new v ≡ class_of new (began (label' v))) x.1.1) xs'
        (λ x i. all_from (λ v. class_of new v ≡ class_of new (began (label' v))) x.1.1 (λ v j. own x v i j));
    meets = all_from (λ (p : ℕ × ℕ). class_of new (began p.0) ≡ class_of new (began p.1)) ps' meets;
  }
    where
      own : (x : ℕ × Loop) (v : ℕ) → In x xs' → In v x.1.1 → class_of new v ≡ class_of new (began (label' v))
      own x v i j =
          elim (cases_Bool (is_in v l.1)) [
            | inl m ↦ (let k : In v l.1 = in_is_in v l.1 m in here v k ∙ ap (λ z. class_of new (began z)) (sym (inside v k)))
            | inr m ↦ elim (In-append x xs ((a, l) ∷ []) i) [
              | inl k ↦ (
                  let e : class_of new v ≡ class_of new (h.began (label v)) = grows v (h.began (label v)) (own_in xs ps label h x v k j) in
                  e ∙ (ap (class_of new) (sym (keep (label v) v (met_in xs x v k j) refl)) ∙ ap (λ z. class_of new (began z)) (sym (outside v m))))
              | inr (inl e) ↦ absurd (both_ways (is_in v l.1) m (is_in_from v l.1 (subst (λ (x : ℕ × Loop). In v x.1.1) e j)))
              | inr (inr z) ↦ absurd z
            ]
          ]

      has : (b : ℕ) (u : HasLabel xs label l b) → class_of new (began b) ≡ class_of new u.vertex
      has b u = ap (class_of new) (keep b u.vertex u.met u.is) ∙ sym (of_label b u)

      meets : (p : ℕ × ℕ) → In p ps' → class_of new (began p.0) ≡ class_of new (began p.1)
      meets p i =
          elim (In-append p ps qs i) [
            | inl k ↦ (
                let r = paired p k in
                ap (class_of new) r.0 ∙ (grows (h.began p.0) (h.began p.1) (meets_in xs ps label h p k) ∙ ap (class_of new) (sym r.1)))
            | inr k ↦ (
                let r : HasLabel xs label l p.0 × HasLabel xs label l p.1 = at_in (λ (p : ℕ × ℕ). HasLabel xs label l p.0 × HasLabel xs label l p.1) qs next.pairs p k in
                has p.0 r.0 ∙ (one r.0.vertex r.1.vertex (in_is_in r.0.vertex l.1 r.0.inside) (in_is_in r.1.vertex l.1 r.1.inside) ∙ sym (has p.1 r.1)))
          ]

  pub more_labelled : IsLabelling xs' ps' label'
  more_labelled =
      elim next.own [
        | inl u ↦ build h.began (λ b v m e. refl) (λ p i. (refl, refl)) (λ v i. one v u.vertex i (in_is_in u.vertex l.1 u.inside) ∙ of_label a u)
        | inr n ↦ build (λ b. cond (eqb b a) (slice_index l.1 0) (h.began b))
            (λ b v m e. ap (λ c. cond c (slice_index l.1 0) (h.began b)) (ne_eqb b a (λ q. n.unused v m (e ∙ q))))
            (λ p i.
            (let r : (p.0 ≢ a) × (p.1 ≢ a) = at_in (λ (p : ℕ × ℕ). (p.0 ≢ a) × (p.1 ≢ a)) ps n.unpaired p i in (
              ap (λ c. cond c (slice_index l.1 0) (h.began p.0)) (ne_eqb p.0 a r.0),
              ap (λ c. cond c (slice_index l.1 0) (h.began p.1)) (ne_eqb p.1 a r.1),
            )))
            (λ v i. one v (slice_index l.1 0) i (first_in l.1 long) ∙ ap (λ c. class_of new (cond c (slice_index l.1 0) (h.began a))) (sym (eq-eqb a a refl)))
      ]
