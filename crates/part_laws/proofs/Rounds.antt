-- Loops and their triangles, as lists.
use Rattle.std.proofs.Common.{◌≡◌, ℕ, suc, ◌<◌, ◌≤◌, Bool, true, false, cond, List, [], ◌∷◌, ◌++◌, map, length, refl, sym, ◌∙◌, ap, inl, inr, arith, slice_index}
use Rattle.std.specs.List.{filter, flat_map}
use Rattle.std.proofs.lemmas.Bool.{cases_eq, eq-eqb, ne_eqb, ltb-true, ltb-false}
use Rattle.std.proofs.lemmas.List.{length-map, map-append}
use Rattle.iso_defs.specs.Lists.{around, closing}
use Rattle.iso_defs.specs.Cell.{loop_triangles}
use Rattle.iso_defs.specs.Scratch.{has_centre, on_corners}
use Rattle.triangle_laws.proofs.Lists.{In}
use Rattle.mesh_laws.proofs.Arcs.{on_pair}
use Rattle.mesh_laws.proofs.AllFans.{around_map}
use Rattle.part_laws.specs.Loops.{Loop}

pub map_map : {A B C : Type 0} (f : B → C) (h : A → B) (xs : List A) → map f (map h xs) ≡ map (λ x. f (h x)) xs
map_map f h [] = refl
map_map f h (x ∷ xs) = ap (λ l. f (h x) ∷ l) (map_map f h xs)

pub map_agree : {A B : Type 0} (f h : A → B) (xs : List A) → ((x : A) → In x xs → f x ≡ h x) → map f xs ≡ map h xs
map_agree f h [] e = refl
map_agree f h (x ∷ xs) e = ap (λ y. y ∷ map f xs) (e x (inl refl)) ∙ ap (λ l. h x ∷ l) (map_agree f h xs (λ y i. e y (inr i)))

pub map_flat : {A B C : Type 0} (f : B → C) (h : A → List B) (xs : List A) → map f (flat_map h xs) ≡ flat_map (λ x. map f (h x)) xs
map_flat f h [] = refl
map_flat f h (x ∷ xs) = map-append f (h x) (flat_map h xs) ∙ ap (λ l. map f (h x) ++ l) (map_flat f h xs)

pub flat_agree : {A B : Type 0} (f h : A → List B) (xs : List A) → ((x : A) → In x xs → f x ≡ h x) → flat_map f xs ≡ flat_map h xs
flat_agree f h [] e = refl
flat_agree f h (x ∷ xs) e = ap (λ y. y ++ flat_map f xs) (e x (inl refl)) ∙ ap (λ l. h x ++ l) (flat_agree f h xs (λ y i. e y (inr i)))

pub flat_join : {A B : Type 0} (f : A → List B) (xs ys : List A) → flat_map f (xs ++ ys) ≡ flat_map f xs ++ flat_map f ys
flat_join f [] ys = refl
flat_join f (x ∷ xs) ys = ap (λ l. f x ++ l) (flat_join f xs ys) ∙ regroup (f x) (flat_map f xs) (flat_map f ys)
  where
    regroup : {B : Type 0} (a b c : List B) → a ++ (b ++ c) ≡ (a ++ b) ++ c
    regroup [] b c = refl
    regroup (x ∷ a) b c = ap (λ l. x ∷ l) (regroup a b c)

pub flat_of_map : {A B C : Type 0} (f : B → List C) (h : A → B) (xs : List A) → flat_map f (map h xs) ≡ flat_map (λ x. f (h x)) xs
flat_of_map f h [] = refl
flat_of_map f h (x ∷ xs) = ap (λ l. f (h x) ++ l) (flat_of_map f h xs)

pub flat_flat : {A B C : Type 0} (f : B → List C) (h : A → List B) (xs : List A) → flat_map f (flat_map h xs) ≡ flat_map (λ x. flat_map f (h x)) xs
flat_flat f h [] = refl
flat_flat f h (x ∷ xs) = flat_join f (h x) (flat_map h xs) ∙ ap (λ l. flat_map f (h x) ++ l) (flat_flat f h xs)

pub filter_flat : {A B : Type 0} (p : B → Bool) (h : A → List B) (xs : List A) → filter p (flat_map h xs) ≡ flat_map (λ x. filter p (h x)) xs
filter_flat p h [] = refl
filter_flat p h (x ∷ xs) = filter_join p (h x) (flat_map h xs) ∙ ap (λ l. filter p (h x) ++ l) (filter_flat p h xs)
  where
    filter_join : {B : Type 0} (p : B → Bool) (xs ys : List B) → filter p (xs ++ ys) ≡ filter p xs ++ filter p ys
    filter_join p [] ys = refl
    filter_join p (x ∷ xs) ys = elim (p x) as (λ b. cond b (x ∷ filter p (xs ++ ys)) (filter p (xs ++ ys)) ≡ cond b (x ∷ filter p xs) (filter p xs) ++ filter p ys) [
      | true ↦ ap (λ l. x ∷ l) (filter_join p xs ys)
      | false ↦ filter_join p xs ys
    ]

pub filter_of_map : {A B : Type 0} (p : B → Bool) (r : A → Bool) (h : A → B) → ((x : A) → p (h x) ≡ r x) → (xs : List A) → filter p (map h xs) ≡ map h (filter r xs)
filter_of_map p r h e [] = refl
filter_of_map p r h e (x ∷ xs) = rw (e x) (elim (r x) as (λ b. cond b (h x ∷ filter p (map h xs)) (filter p (map h xs)) ≡ map h (cond b (x ∷ filter r xs) (filter r xs))) [
  | true ↦ ap (λ l. h x ∷ l) (filter_of_map p r h e xs)
  | false ↦ filter_of_map p r h e xs
])

-- the triangle of a loop of three, and the fan of any other
pub of_three : (l : List ℕ) (c : ℕ) → length l ≡ 3 → loop_triangles l c ≡ (slice_index l 0, slice_index l 1, slice_index l 2) ∷ []
of_three l c e = ap (λ b. cond b ((slice_index l 0, slice_index l 1, slice_index l 2) ∷ []) (map (λ (p : ℕ × ℕ). (p.0, p.1, c)) (around l))) (eq-eqb (length l) 3 e)

pub of_more : (l : List ℕ) (c : ℕ) → (length l ≡ 3 → ⊥) → loop_triangles l c ≡ map (λ (p : ℕ × ℕ). (p.0, p.1, c)) (around l)
of_more l c n = ap (λ b. cond b ((slice_index l 0, slice_index l 1, slice_index l 2) ∷ []) (map (λ (p : ℕ × ℕ). (p.0, p.1, c)) (around l))) (ne_eqb (length l) 3 n)

-- three vertices are these
pub three_are : (l : List ℕ) → length l ≡ 3 → l ≡ slice_index l 0 ∷ slice_index l 1 ∷ slice_index l 2 ∷ []
three_are [] e = absurd (omega arith)
three_are (a ∷ []) e = absurd (omega arith)
three_are (a ∷ b ∷ []) e = absurd (omega arith)
three_are (a ∷ b ∷ c ∷ []) e = refl
three_are (a ∷ b ∷ c ∷ d ∷ l) e = absurd (omega arith)

-- the triangles of the images of a loop
pub loop_moves : (f : ℕ → ℕ) (l : List ℕ) (c : ℕ) → map (on_corners f) (loop_triangles l c) ≡ loop_triangles (map f l) (f c)
loop_moves f l c =
    let k : length (map f l) ≡ length l = length-map l f in
    elim (cases_eq (length l) 3) [
      | inl e ↦ ap (map (on_corners f)) (of_three l c e) ∙ (three l e ∙ sym (of_three (map f l) (f c) (k ∙ e)))
      | inr n ↦ ap (map (on_corners f)) (of_more l c n)
          ∙ (map_map (on_corners f) (λ (p : ℕ × ℕ). (p.0, p.1, c)) (around l)
          ∙ (sym (map_map (λ (p : ℕ × ℕ). (p.0, p.1, f c)) (on_pair f) (around l))
          ∙ (ap (map (λ (p : ℕ × ℕ). (p.0, p.1, f c))) (around_map f l) ∙ sym (of_more (map f l) (f c) (λ e. n (sym k ∙ e))))))
    ]
  where
    three : (l : List ℕ) → length l ≡ 3 → map (on_corners f) ((slice_index l 0, slice_index l 1, slice_index l 2) ∷ []) ≡ (slice_index (map f l) 0, slice_index (map f l) 1, slice_index (map f l) 2) ∷ []
    three [] e = absurd (omega arith)
    three (a ∷ []) e = absurd (omega arith)
    three (a ∷ b ∷ []) e = absurd (omega arith)
    three (a ∷ b ∷ c ∷ []) e = refl
    three (a ∷ b ∷ c ∷ d ∷ l) e = absurd (omega arith)

-- the steps round a loop begin and end at its vertices
closing_ends : (first v : ℕ) (vs : List ℕ) (p : ℕ × ℕ) → In p (closing first v vs) → In p.0 (v ∷ vs) × In p.1 (first ∷ vs)
closing_ends first v [] p (inl e) = (inl (ap (λ (q : ℕ × ℕ). q.0) e), inl (ap (λ (q : ℕ × ℕ). q.1) e))
closing_ends first v [] p (inr i) = absurd i
closing_ends first v (w ∷ vs) p (inl e) = (inl (ap (λ (q : ℕ × ℕ). q.0) e), inr (inl (ap (λ (q : ℕ × ℕ). q.1) e)))
closing_ends first v (w ∷ vs) p (inr i) =
    let r : In p.0 (w ∷ vs) × In p.1 (first ∷ vs) = closing_ends first w vs p i in
    (inr r.0, elim r.1 [ inl e ↦ inl e | inr j ↦ inr (inr j) ])

pub step_ends : (vs : List ℕ) (p : ℕ × ℕ) → In p (around vs) → In p.0 vs × In p.1 vs
step_ends [] p i = absurd i
step_ends (v ∷ vs) p i = closing_ends v v vs p i

-- one begins at each
step_from : (first v : ℕ) (vs : List ℕ) (w : ℕ) → In w (v ∷ vs) → (p : ℕ × ℕ) × In p (closing first v vs) × (p.0 ≡ w)
step_from first v [] w (inl e) = ((v, first), inl refl, sym e)
step_from first v [] w (inr i) = absurd i
step_from first v (u ∷ vs) w (inl e) = ((v, u), inl refl, sym e)
step_from first v (u ∷ vs) w (inr i) = let r : (p : ℕ × ℕ) × In p (closing first u vs) × (p.0 ≡ w) = step_from first u vs w i in (r.0, inr r.1, r.2)

pub step_at : (vs : List ℕ) (w : ℕ) → In w vs → (p : ℕ × ℕ) × In p (around vs) × (p.0 ≡ w)
step_at [] w i = absurd i
step_at (v ∷ vs) w i = step_from v v vs w i

pub length_around : (vs : List ℕ) → length (around vs) ≡ length vs
length_around [] = refl
length_around (v ∷ vs) = go v v vs
  where
    go : (first v : ℕ) (vs : List ℕ) → length (closing first v vs) ≡ suc (length vs)
    go first v [] = refl
    go first v (w ∷ vs) = ap suc (go first w vs)

-- a loop has a centre where it has more than three vertices
pub centred : (l : Loop) → has_centre l ≡ true → length l.1 ≡ 3 → ⊥
centred l h e = let k : 3 < length l.1 = ltb-true 3 (length l.1) h in absurd (omega arith)

pub uncentred : (l : Loop) → 3 ≤ length l.1 → has_centre l ≡ false → length l.1 ≡ 3
uncentred l m h = let k : length l.1 ≤ 3 = ltb-false 3 (length l.1) h in omega arith
