-- The numbers of a part of a mesh, by its loops.
use Rattle.std.proofs.Common.{◌≡◌, ℕ, zero, suc, ◌+◌, ◌-◌, ◌*◌, ◌/◌, ◌<◌, ◌≤◌, Bool, true, false, cond, ◌&&◌, List, [], ◌∷◌, ◌++◌, map, length, refl, sym, ◌∙◌, ap, inl, inr, arith, eqb, zero-add}
use Rattle.std.specs.List.{filter, flat_map, list_any, range_with_len, count_by, AllByRecursion}
use Rattle.std.proofs.lemmas.Bool.{cases_Bool, and_from, and_right, or_left, or_right, eq-eqb}
use Rattle.std.proofs.lemmas.List.Sums.{sum_by-cons, length-filter}
use Rattle.iso_defs.specs.Lists.{below, around}
use Rattle.iso_defs.specs.Cell.{Triangle}
use Rattle.iso_defs.specs.Scratch.{has_centre}
use Rattle.iso_defs.specs.Manifold.{uses, runs, runs_of, all_runs, times_run}
use Rattle.triangle_laws.proofs.Lists.{In, In-filter, In-flat_map, in_filter}
use Rattle.triangle_laws.proofs.Counts.{count-cons, count-append, count-map, count_agree, count_some}
use Rattle.mesh_report.specs.Report.{used}
use Rattle.mesh_report.proofs.Reach.{below_in}
use Rattle.mesh_report.proofs.Sums.{sum_agree}
use Rattle.mesh_report.proofs.NumberLaws.{count_filter, AgreesOn}
use Rattle.part_laws.specs.Loops.{Loop, triangles_round, rims, rims_where, spokes, faces, centres}
use Rattle.part_laws.specs.Parts.{edges_round}
use Rattle.part_laws.proofs.PairSums.{sum_flat, sum_filter}
use Rattle.part_laws.proofs.Edges.{edges_with, border_with, edges_told, border_told}
use Rattle.part_laws.proofs.Rounds.{of_three, of_more, three_are, length_around, centred, uncentred, flat_flat, step_ends}
use Rattle.part_laws.proofs.Joined.{AreLoops, first_of, CornerOf, corners_of}

pub filter_all : {A : Type 0} (p : A → Bool) (xs : List A) → ((x : A) → In x xs → p x ≡ true) → filter p xs ≡ xs
filter_all p [] h = refl
filter_all p (x ∷ xs) h = ap (λ b. cond b (x ∷ filter p xs) (filter p xs)) (h x (inl refl)) ∙ ap (λ l. x ∷ l) (filter_all p xs (λ y i. h y (inr i)))

pub filter_none : {A : Type 0} (p : A → Bool) (xs : List A) → ((x : A) → In x xs → p x ≡ false) → filter p xs ≡ []
filter_none p [] h = refl
filter_none p (x ∷ xs) h = ap (λ b. cond b (x ∷ filter p xs) (filter p xs)) (h x (inl refl)) ∙ filter_none p xs (λ y i. h y (inr i))

pub filter_agree : {A : Type 0} (p r : A → Bool) (xs : List A) → ((x : A) → In x xs → p x ≡ r x) → filter p xs ≡ filter r xs
filter_agree p r [] h = refl
filter_agree p r (x ∷ xs) h =
    ap (λ b. cond b (x ∷ filter p xs) (filter p xs)) (h x (inl refl))
    ∙ ap (λ l. cond (r x) (x ∷ l) l) (filter_agree p r xs (λ y i. h y (inr i)))

pub range_join : (a m k : ℕ) → range_with_len a (m + k) ≡ range_with_len a m ++ range_with_len (a + m) k
range_join a zero k = ap (λ j. range_with_len a j) (zero-add k) ∙ ap (λ j. range_with_len j k) (let e : a ≡ a + 0 = omega arith in e)
range_join a (suc m) k =
    ap (λ j. range_with_len a j) (let e : suc m + k ≡ suc (m + k) = omega arith in e)
    ∙ ap (λ l. a ∷ l) (range_join (a + 1) m k ∙ ap (λ j. range_with_len (a + 1) m ++ range_with_len j k) (let e : a + 1 + m ≡ a + suc m = omega arith in e))

count_always : {A : Type 0} (b : Bool) (xs : List A) → count_by (λ x. b) xs ≡ cond b (length xs) 0
count_always true [] = refl
count_always true (x ∷ xs) = count-cons (λ x. true) x xs ∙ (let r : count_by (λ x. true) xs ≡ length xs = count_always true xs in let e : 1 + count_by (λ x. true) xs ≡ suc (length xs) = omega arith in e)
count_always false [] = refl
count_always false (x ∷ xs) = count-cons (λ x. false) x xs ∙ (let r : count_by (λ x. false) xs ≡ 0 = count_always false xs in let e : 0 + count_by (λ x. false) xs ≡ 0 = omega arith in e)

-- three times the faces of loops, by their steps and spokes
pub sides_round : (ls : List Loop) → ((l : Loop) → In l ls → 3 ≤ length l.1) → 3 * faces ls ≡ rims ls + 2 * spokes ls
sides_round [] h = refl
sides_round (l ∷ ls) h =
    let r : 3 * faces ls ≡ rims ls + 2 * spokes ls = sides_round ls (λ k i. h k (inr i)) in
    let a : faces (l ∷ ls) ≡ cond (has_centre l) (length l.1) 1 + faces ls = sum_by-cons (λ (l : Loop). cond (has_centre l) (length l.1) 1) l ls in
    let b : rims (l ∷ ls) ≡ length l.1 + rims ls = sum_by-cons (λ (l : Loop). length l.1) l ls in
    let c : spokes (l ∷ ls) ≡ cond (has_centre l) (length l.1) 0 + spokes ls = sum_by-cons (λ (l : Loop). cond (has_centre l) (length l.1) 0) l ls in
    let d : 3 * cond (has_centre l) (length l.1) 1 ≡ length l.1 + 2 * cond (has_centre l) (length l.1) 0 = one (has_centre l) (length l.1) (λ e. uncentred l (h l (inl refl)) e) in
    omega (arith, a, b, c, d, r)
  where
    one : (b : Bool) (k : ℕ) → (b ≡ false → k ≡ 3) → 3 * cond b k 1 ≡ k + 2 * cond b k 0
    one true k e = omega arith
    one false k e = let q : k ≡ 3 = e refl in omega arith

-- the triangles of a loop
round_length : (l : Loop) → 3 ≤ length l.1 → length (triangles_round l) ≡ cond (has_centre l) (length l.1) 1
round_length l h =
    elim (cases_Bool (has_centre l)) [
      | inl e ↦ ap length (of_more l.1 l.0 (centred l e)) ∙ (length_of_map (around l.1) ∙ (length_around l.1 ∙ sym (ap (λ b. cond b (length l.1) 1) e)))
      | inr e ↦ ap length (of_three l.1 l.0 (uncentred l h e)) ∙ sym (ap (λ b. cond b (length l.1) 1) e)
    ]
  where
    length_of_map : (ps : List (ℕ × ℕ)) → length {A = Triangle} (map (λ (p : ℕ × ℕ). (p.0, p.1, l.0)) ps) ≡ length ps
    length_of_map [] = refl
    length_of_map (p ∷ ps) = ap suc (length_of_map ps)

-- those of the sides of a loop's triangles that pass a test which no spoke passes
round_sides : (Q : ℕ × ℕ → Bool) (l : Loop) → 3 ≤ length l.1 → (has_centre l ≡ true → (v : ℕ) → In v l.1 → (Q (v, l.0) ≡ false) × (Q (l.0, v) ≡ false))
    → count_by Q (all_runs (triangles_round l)) ≡ count_by Q (around l.1)
round_sides Q l h none =
    elim (cases_Bool (has_centre l)) [
      | inr e ↦ (let k : length l.1 ≡ 3 = uncentred l h e in
          ap (λ ts. count_by Q (all_runs ts)) (of_three l.1 l.0 k) ∙ sym (ap (λ vs. count_by Q (around vs)) (three_are l.1 k)))
      | inl e ↦ ap (λ ts. count_by Q (all_runs ts)) (of_more l.1 l.0 (centred l e)) ∙ fan (around l.1) (λ p i. let s : In p.0 l.1 × In p.1 l.1 = step_ends l.1 p i in ((none e p.1 s.1).0, (none e p.0 s.0).1))
    ]
  where
    fan : (ps : List (ℕ × ℕ)) → ((p : ℕ × ℕ) → In p ps → (Q (p.1, l.0) ≡ false) × (Q (l.0, p.0) ≡ false))
        → count_by Q (all_runs (map (λ (p : ℕ × ℕ). (p.0, p.1, l.0)) ps)) ≡ count_by Q ps
    fan [] k = refl
    fan (p ∷ ps) k =
        let rest : List (ℕ × ℕ) = all_runs (map (λ (p : ℕ × ℕ). (p.0, p.1, l.0)) ps) in
        let a : count_by Q (p ∷ (p.1, l.0) ∷ (l.0, p.0) ∷ rest) ≡ cond (Q p) 1 0 + count_by Q ((p.1, l.0) ∷ (l.0, p.0) ∷ rest) = count-cons Q p ((p.1, l.0) ∷ (l.0, p.0) ∷ rest) in
        let b : count_by Q ((p.1, l.0) ∷ (l.0, p.0) ∷ rest) ≡ cond (Q (p.1, l.0)) 1 0 + count_by Q ((l.0, p.0) ∷ rest) = count-cons Q (p.1, l.0) ((l.0, p.0) ∷ rest) in
        let c : count_by Q ((l.0, p.0) ∷ rest) ≡ cond (Q (l.0, p.0)) 1 0 + count_by Q rest = count-cons Q (l.0, p.0) rest in
        let x : cond {A = ℕ} (Q (p.1, l.0)) 1 0 ≡ 0 = ap (λ b. cond b 1 0) (k p (inl refl)).0 in
        let y : cond {A = ℕ} (Q (l.0, p.0)) 1 0 ≡ 0 = ap (λ b. cond b 1 0) (k p (inl refl)).1 in
        let r : count_by Q rest ≡ count_by Q ps = fan ps (λ q i. k q (inr i)) in
        let d : count_by Q (p ∷ ps) ≡ cond (Q p) 1 0 + count_by Q ps = count-cons Q p ps in
        omega (arith, a, b, c, x, y, r, d)

-- a triangle runs its sides
run_has : (t : Triangle) (p : ℕ × ℕ) → In p (runs_of t) → runs p.0 p.1 t ≡ true
run_has t p (inl e) = rw e (or_left (eqb t.0 t.0 && eqb t.1 t.1) _ (and_from _ _ (eq-eqb t.0 t.0 refl) (eq-eqb t.1 t.1 refl)))
run_has t p (inr (inl e)) = rw e (or_right (eqb t.0 t.1 && eqb t.1 t.2) _ (or_left (eqb t.1 t.1 && eqb t.2 t.2) _ (and_from _ _ (eq-eqb t.1 t.1 refl) (eq-eqb t.2 t.2 refl))))
run_has t p (inr (inr (inl e))) = rw e (or_right (eqb t.0 t.2 && eqb t.1 t.0) _ (or_right (eqb t.1 t.2 && eqb t.2 t.0) _ (and_from _ _ (eq-eqb t.2 t.2 refl) (eq-eqb t.0 t.0 refl))))
run_has t p (inr (inr (inr z))) = absurd z

module _ (m n : ℕ) (in_outer_plane : ℕ → ℕ → Bool) (ls : List Loop) (h : AreLoops m n in_outer_plane ls)
    (T : ℕ → Bool) (alike : (l : Loop) (v : ℕ) → In l ls → CornerOf l v → T v ≡ T (first_of l)) where
  abbrev all : List Triangle
  all = flat_map triangles_round ls

  -- the loops that pass
  abbrev pub chosen : List Loop
  chosen = filter (λ (l : Loop). T (first_of l)) ls

  chosen_long : (l : Loop) → In l chosen → 3 ≤ length l.1
  chosen_long l i = h.long l (In-filter (λ (l : Loop). T (first_of l)) l ls i).0

  swap : (x y : Bool) → (x && y) ≡ (y && x)
  swap true true = refl
  swap true false = refl
  swap false true = refl
  swap false false = refl

  pub vertices_by_loops : length (filter T (used n all)) ≡ count_by T (below m) + centres chosen
  vertices_by_loops =
      let u : used n all ≡ below n = filter_all (λ v. list_any (uses v) all) (below n) (λ v i. h.used v (below_in n v i)) in
      let w : m + (n - m) ≡ n = omega (arith, h.first) in
      let z : 0 + m ≡ m = zero-add m in
      let b : below n ≡ below m ++ range_with_len m (n - m) = sym (ap below w) ∙ (range_join 0 m (n - m) ∙ ap (λ k. below m ++ range_with_len k (n - m)) z) in
      let first : Loop → ℕ = λ (l : Loop). l.0 in
      let c : count_by T (range_with_len m (n - m)) ≡ centres chosen
      = ap (count_by T) (sym h.follow)
      ∙ (count-map T first (filter has_centre ls)
      ∙ (count_agree (λ (l : Loop). T l.0) (λ (l : Loop). T (first_of l)) (filter has_centre ls)
      (λ l i. let k : In l ls × (has_centre l ≡ true) = In-filter has_centre l ls i in alike l l.0 k.0 (inr (k.1, refl)))
      ∙ (count_filter (λ (l : Loop). T (first_of l)) has_centre ls
      ∙ (count_agree (λ (l : Loop). has_centre l && T (first_of l)) (λ (l : Loop). T (first_of l) && has_centre l) ls (λ l i. swap (has_centre l) (T (first_of l)))
      ∙ sym (count_filter has_centre (λ (l : Loop). T (first_of l)) ls))))) in
      ap (λ vs. length (filter T vs)) u
      ∙ (length-filter T (below n)
      ∙ (ap (count_by T) b ∙ (count-append T (below m) (range_with_len m (n - m)) ∙ ap (λ k. count_by T (below m) + k) c)))

  pub faces_by_loops : length (filter (λ (t : Triangle). T t.0) all) ≡ faces chosen
  faces_by_loops =
      let P : Triangle → Bool = λ (t : Triangle). T t.0 in
      let one : Loop → ℕ = λ (l : Loop). cond (has_centre l) (length l.1) 1 in
      length-filter P all
      ∙ (sum_flat (λ t. cond (P t) 1 0) triangles_round ls
      ∙ (sum_agree (λ l. count_by P (triangles_round l)) (λ l. cond (T (first_of l)) (one l) 0) ls (λ l i. each l i)
      ∙ sym (sum_filter one (λ (l : Loop). T (first_of l)) ls)))
    where
      each : (l : Loop) → In l ls → count_by (λ (t : Triangle). T t.0) (triangles_round l) ≡ cond (T (first_of l)) (cond (has_centre l) (length l.1) 1) 0
      each l i =
          count_agree (λ (t : Triangle). T t.0) (λ t. T (first_of l)) (triangles_round l) (λ t j. alike l t.0 i (inl (corners_of l (h.long l i) t j).0))
          ∙ (count_always (T (first_of l)) (triangles_round l) ∙ ap (λ k. cond (T (first_of l)) k 0) (round_length l (h.long l i)))

  agree : AllByRecursion (AgreesOn T) all
  agree = all_of all (λ t i. i)
    where
      all_of : (us : List Triangle) → ((t : Triangle) → In t us → In t all) → AllByRecursion (AgreesOn T) us
      all_of [] k = tt
      all_of (t ∷ us) k =
          let l : (l : Loop) × In l ls × In t (triangles_round l) = In-flat_map triangles_round t ls (k t (inl refl)) in
          let c : In t.0 l.0.1 × In t.1 l.0.1 × CornerOf l.0 t.2 = corners_of l.0 (h.long l.0 l.1) t l.2 in
          let a : T t.0 ≡ T (first_of l.0) = alike l.0 t.0 l.1 (inl c.0) in
          ((alike l.0 t.1 l.1 (inl c.1) ∙ sym a, alike l.0 t.2 l.1 c.2 ∙ sym a), all_of us (λ u i. k u (inr i)))

  pub border_by_loops : border_with n all T ≡ rims_where in_outer_plane chosen
  border_by_loops =
      let P : ℕ × ℕ → Bool = λ (p : ℕ × ℕ). T p.0 && in_outer_plane p.0 p.1 in
      let one : Loop → ℕ = λ (l : Loop). count_by (λ (p : ℕ × ℕ). in_outer_plane p.0 p.1) (around l.1) in
      border_told n all h.corners h.bounded h.once T agree
      ∙ (count_agree (λ (p : ℕ × ℕ). T p.0 && eqb (times_run all p.1 p.0) 0) P (all_runs all) (λ p i. ap (λ b. T p.0 && b) (sym (h.border p.0 p.1 (run p i))))
      ∙ (ap (count_by P) (flat_flat runs_of triangles_round ls)
      ∙ (sum_flat (λ p. cond (P p) 1 0) (λ l. all_runs (triangles_round l)) ls
      ∙ (sum_agree (λ l. count_by P (all_runs (triangles_round l))) (λ l. cond (T (first_of l)) (one l) 0) ls (λ l i. each l i)
      ∙ sym (sum_filter one (λ (l : Loop). T (first_of l)) ls)))))
    where
      run : (p : ℕ × ℕ) → In p (all_runs all) → 0 < times_run all p.0 p.1
      run p i =
          let t : (t : Triangle) × In t all × In p (runs_of t) = In-flat_map runs_of p all i in
          count_some (runs p.0 p.1) all t.0 t.1 (run_has t.0 p t.2)

      guarded : (b : Bool) (q : ℕ × ℕ → Bool) (ps : List (ℕ × ℕ)) → count_by (λ p. b && q p) ps ≡ cond b (count_by q ps) 0
      guarded true q ps = refl
      guarded false q ps = count_always false ps

      each : (l : Loop) → In l ls → count_by (λ (p : ℕ × ℕ). T p.0 && in_outer_plane p.0 p.1) (all_runs (triangles_round l))
          ≡ cond (T (first_of l)) (count_by (λ (p : ℕ × ℕ). in_outer_plane p.0 p.1) (around l.1)) 0
      each l i =
          round_sides (λ (p : ℕ × ℕ). T p.0 && in_outer_plane p.0 p.1) l (h.long l i) (λ c v j. (
            and_right (T v) (in_outer_plane v l.0) (h.inside l v (in_filter has_centre l ls i c)).0,
            and_right (T l.0) (in_outer_plane l.0 v) (h.inside l v (in_filter has_centre l ls i c)).1,
          ))
          ∙ (count_agree (λ (p : ℕ × ℕ). T p.0 && in_outer_plane p.0 p.1) (λ (p : ℕ × ℕ). T (first_of l) && in_outer_plane p.0 p.1) (around l.1)
          (λ p j. ap (λ b. b && in_outer_plane p.0 p.1) (alike l p.0 i (inl (step_ends l.1 p j).0)))
          ∙ guarded (T (first_of l)) (λ (p : ℕ × ℕ). in_outer_plane p.0 p.1) (around l.1))

  pub edges_by_loops : length (edges_with n all T) ≡ edges_round in_outer_plane chosen
  edges_by_loops =
      let a : 2 * length (edges_with n all T) ≡ 3 * length (filter (λ (t : Triangle). T t.0) all) + border_with n all T = edges_told n all h.corners h.bounded h.once T agree in
      let b : 3 * faces chosen ≡ rims chosen + 2 * spokes chosen = sides_round chosen chosen_long in
      half (length (edges_with n all T)) (length (filter (λ (t : Triangle). T t.0) all)) (border_with n all T) (faces chosen) (rims_where in_outer_plane chosen) (rims chosen) (spokes chosen)
      a faces_by_loops border_by_loops b
    where
      half : (e f b f' b' r s : ℕ) → 2 * e ≡ 3 * f + b → f ≡ f' → b ≡ b' → 3 * f' ≡ r + 2 * s → e ≡ (r + b') / 2 + s
      half e f b f' b' r s h i j k = omega arith
