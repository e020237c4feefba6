-- Loops by other names in the same order: the same classes, numbers and measures.
use Rattle.std.proofs.Common.{◌≡◌, ℕ, ◌+◌, ◌/◌, ◌<◌, ◌≤◌, ℤ, Bool, true, false, cond, ◌||◌, List, [], ◌∷◌, map, length, refl, sym, ◌∙◌, ap, subst, inl, inr, arith, eqb, leb, nat_lt, slice_index}
use Rattle.std.specs.List.{filter, count_by}
use Rattle.std.proofs.lemmas.Bool.{cases_Bool, cases_order, le-leb, lt-leb}
use Rattle.std.proofs.lemmas.List.{length-map}
use Rattle.iso_defs.specs.Lists.{around, is_in, least_of}
use Rattle.iso_defs.specs.Scratch.{has_centre}
use Rattle.triangle_laws.proofs.Lists.{In, In-map, In-filter}
use Rattle.triangle_laws.proofs.Fans.{in_is_in}
use Rattle.triangle_laws.proofs.Counts.{count-map, count_agree}
use Rattle.mesh_laws.proofs.Arcs.{on_pair}
use Rattle.mesh_laws.proofs.AllFans.{around_map}
use Rattle.mesh_laws.proofs.Directed.{test_moves}
use Rattle.measure_laws.specs.Vectors.{Vector, cross, dot, total}
use Rattle.measure_laws.proofs.Totals.{total-map}
use Rattle.measure.specs.declared.share.Share.{Share}
use Rattle.measure.specs.Measures.{coordinates}
use Rattle.mesh_report.specs.declared.part.Part.{Part}
use Rattle.mesh_report.specs.Report.{Summary}
use Rattle.mesh_report.proofs.Sums.{sum_agree}
use Rattle.part_laws.specs.Loops.{Loop, renamed, rims, rims_where, spokes, faces, centres}
use Rattle.part_laws.specs.Classes.{class_of, is_of_class}
use Rattle.part_laws.specs.Parts.{class_loops, class_part, classes, edges_round, loop_summary, part_by}
use Rattle.part_laws.specs.Swept.{area_round, loop_measures, share_round, six_of, swept, tip}
use Rattle.part_laws.proofs.PairSums.{sum_map}
use Rattle.part_laws.proofs.Rounds.{map_map, map_agree, step_ends}
use Rattle.part_laws.proofs.Joined.{first_of, first_in}
use Rattle.part_laws.proofs.ClassLaws.{class_more, class_kept, class_none, least_found}
use Rattle.part_laws.proofs.Measured.{total_in}
use Rattle.part_laws.proofs.Summed.{same_part}

pub filter_map_in : {A B : Type 0} (p : B → Bool) (r : A → Bool) (f : A → B) (xs : List A) → ((x : A) → In x xs → p (f x) ≡ r x) → filter p (map f xs) ≡ map f (filter r xs)
filter_map_in p r f [] e = refl
filter_map_in p r f (x ∷ xs) e = rw (e x (inl refl)) (elim (r x) as (λ b. cond b (f x ∷ filter p (map f xs)) (filter p (map f xs)) ≡ map f (cond b (x ∷ filter r xs) (filter r xs))) [
  | true ↦ ap (λ l. f x ∷ l) (filter_map_in p r f xs (λ y i. e y (inr i)))
  | false ↦ filter_map_in p r f xs (λ y i. e y (inr i))
])

-- names of the same order, for these vertices
module _ (f : ℕ → ℕ) (edges : List ℕ) (rises : (a b : ℕ) → In a edges → In b edges → a < b → f a < f b) where
  injective : (a b : ℕ) → In a edges → In b edges → f a ≡ f b → a ≡ b
  injective a b i j e =
      elim (cases_order a b) [
        | inl q ↦ q
        | inr k ↦ elim k [
          | inl l ↦ (let m : f a < f b = rises a b i j l in absurd (omega arith))
          | inr l ↦ (let m : f b < f a = rises b a j i l in absurd (omega arith))
        ]
      ]

  same_test : (a b : ℕ) → In a edges → In b edges → eqb (f a) (f b) ≡ eqb a b
  same_test a b i j = test_moves f a b (injective a b i j)

  same_order : (a b : ℕ) → In a edges → In b edges → leb (f a) (f b) ≡ leb a b
  same_order a b i j =
      elim (cases_order a b) [
        | inl q ↦ le-leb (f a) (f b) (let e : f a ≡ f b = ap f q in omega arith) ∙ sym (le-leb a b (omega arith))
        | inr k ↦ elim k [
          | inl l ↦ (let m : f a < f b = rises a b i j l in le-leb (f a) (f b) (omega arith) ∙ sym (le-leb a b (omega arith)))
          | inr l ↦ (let m : f b < f a = rises b a j i l in lt-leb (f a) (f b) m ∙ sym (lt-leb a b l))
        ]
      ]

  abbrev Known : List ℕ → Type 0
  Known xs = (x : ℕ) → In x xs → In x edges

  least_renamed : (x : ℕ) (xs : List ℕ) → Known (x ∷ xs) → least_of (map f (x ∷ xs)) ≡ f (least_of (x ∷ xs))
  least_renamed x [] k = refl
  least_renamed x (y ∷ ys) k =
      let w : ℕ = least_of (y ∷ ys) in
      let r : least_of (map f (y ∷ ys)) ≡ f w = least_renamed y ys (λ z i. k z (inr i)) in
      let j : In w edges = k w (inr (least_found (y ∷ ys) y (inl refl)).0) in
      ap (λ z. cond (leb (f x) z) (f x) z) r ∙ (ap (λ b. cond b (f x) (f w)) (same_order x w (k x (inl refl)) j) ∙ choose (leb x w) w)
    where
      choose : (b : Bool) (w : ℕ) → cond b (f x) (f w) ≡ f (cond b x w)
      choose true w = refl
      choose false w = refl

  is_in_renamed : (x : ℕ) (xs : List ℕ) → In x edges → Known xs → is_in (f x) (map f xs) ≡ is_in x xs
  is_in_renamed x [] i k = refl
  is_in_renamed x (y ∷ ys) i k =
      ap (λ b. b || is_in (f x) (map f ys)) (same_test y x (k y (inl refl)) i) ∙ ap (λ b. eqb y x || b) (is_in_renamed x ys i (λ z j. k z (inr j)))

  abbrev AllKnown : List Loop → Type 0
  AllKnown ls = (l : Loop) (v : ℕ) → In l ls → In v l.1 → In v edges

  class_known : (ls : List Loop) → AllKnown ls → (v : ℕ) → In v edges → In (class_of ls v) edges
  class_known [] k v i = subst (λ z. In z edges) (sym (class_none v)) i
  class_known (l ∷ ls) k v i =
      let before : (u : ℕ) → In u edges → In (class_of ls u) edges = λ u j. class_known ls (λ m w a b. k m w (inr a) b) u j in
      elim (cases_Bool (is_in (class_of ls v) (map (class_of ls) l.1))) [
        | inr e ↦ subst (λ z. In z edges) (sym (class_kept l ls v e)) (before v i)
        | inl e ↦ (
            let j : In (class_of ls v) (map (class_of ls) l.1) = in_is_in (class_of ls v) (map (class_of ls) l.1) e in
            let a : In (least_of (map (class_of ls) l.1)) (map (class_of ls) l.1) = (least_found (map (class_of ls) l.1) (class_of ls v) j).0 in
            let w : (w : ℕ) × In w l.1 × (least_of (map (class_of ls) l.1) ≡ class_of ls w) = In-map (class_of ls) (least_of (map (class_of ls) l.1)) l.1 a in
            subst (λ z. In z edges) (sym (class_more l ls v e ∙ w.2)) (before w.0 (k l w.0 (inl refl) w.1)))
      ]

  -- the class of a vertex by its other name
  pub class_renamed : (ls : List Loop) → AllKnown ls → (v : ℕ) → In v edges → class_of (map (renamed f) ls) (f v) ≡ f (class_of ls v)
  class_renamed [] k v i = class_none (f v) ∙ ap f (sym (class_none v))
  class_renamed (l ∷ ls) k v i =
      let C : ℕ → ℕ = class_of ls in
      let D : ℕ → ℕ = class_of (map (renamed f) ls) in
      let rest : AllKnown ls = λ m w a b. k m w (inr a) b in
      let before : (u : ℕ) → In u edges → D (f u) ≡ f (C u) = λ u j. class_renamed ls rest u j in
      let known : Known (map C l.1) = λ z j. (let w : (w : ℕ) × In w l.1 × (z ≡ C w) = In-map C z l.1 j in subst (λ z. In z edges) (sym w.2) (class_known ls rest w.0 (k l w.0 (inl refl) w.1))) in
      let moved : map D (map f l.1) ≡ map f (map C l.1)
      = map_map D f l.1 ∙ (map_agree (λ w. D (f w)) (λ w. f (C w)) l.1 (λ w j. before w (k l w (inl refl) j)) ∙ sym (map_map f C l.1)) in
      let test : is_in (D (f v)) (map D (map f l.1)) ≡ is_in (C v) (map C l.1)
      = ap (λ xs. is_in (D (f v)) xs) moved ∙ (ap (λ z. is_in z (map f (map C l.1))) (before v i) ∙ is_in_renamed (C v) (map C l.1) (class_known ls rest v i) known) in
      elim (cases_Bool (is_in (C v) (map C l.1))) [
        | inr e ↦ class_kept (renamed f l) (map (renamed f) ls) (f v) (test ∙ e) ∙ (before v i ∙ ap f (sym (class_kept l ls v e)))
        | inl e ↦ class_more (renamed f l) (map (renamed f) ls) (f v) (test ∙ e)
            ∙ (ap least_of moved ∙ (some (map C l.1) (C v) (in_is_in (C v) (map C l.1) e) known ∙ ap f (sym (class_more l ls v e))))
      ]
    where
      some : (xs : List ℕ) (y : ℕ) → In y xs → Known xs → least_of (map f xs) ≡ f (least_of xs)
      some [] y j k = absurd j
      some (x ∷ xs) y j k = least_renamed x xs k

  module _ (ls : List Loop) (known : AllKnown ls) (long : (l : Loop) → In l ls → 3 ≤ length l.1) where
    abbrev others : List Loop
    others = map (renamed f) ls

    class_test : (v k : ℕ) → In v edges → In k edges → eqb (class_of others (f v)) (f k) ≡ eqb (class_of ls v) k
    class_test v k i j = ap (λ z. eqb z (f k)) (class_renamed ls known v i) ∙ same_test (class_of ls v) k (class_known ls known v i) j

    first_renamed : (l : Loop) → In l ls → first_of (renamed f l) ≡ f (first_of l)
    first_renamed l i = go l.1 (long l i)
      where
        go : (vs : List ℕ) → 3 ≤ length vs → slice_index (map f vs) 0 ≡ f (slice_index vs 0)
        go [] h = absurd (omega arith)
        go (v ∷ vs) h = refl

    pub loops_renamed : (k : ℕ) → In k edges → class_loops others (f k) ≡ map (renamed f) (class_loops ls k)
    loops_renamed k j =
        filter_map_in (is_of_class others (f k)) (is_of_class ls k) (renamed f) ls
        (λ l i. ap (λ z. eqb (class_of others z) (f k)) (first_renamed l i) ∙ class_test (first_of l) k (known l (first_of l) i (first_in l.1 (long l i))) j)

    pub classes_renamed : classes (map f edges) others ≡ map f (classes edges ls)
    classes_renamed = filter_map_in (λ v. eqb (class_of others v) v) (λ v. eqb (class_of ls v) v) f edges (λ v i. class_test v v i i)

    module _ (in_outer_plane border : ℕ → ℕ → Bool) (alike : (a b : ℕ) → In a edges → In b edges → in_outer_plane (f a) (f b) ≡ border a b) where
      centre_alike : (l : Loop) → has_centre (renamed f l) ≡ has_centre l
      centre_alike l = ap (λ k. nat_lt 3 k) (length-map l.1 f)

      rims_renamed : (ks : List Loop) → rims (map (renamed f) ks) ≡ rims ks
      rims_renamed ks = sum_map (λ (l : Loop). length l.1) (renamed f) ks ∙ sum_agree (λ (l : Loop). length (map f l.1)) (λ (l : Loop). length l.1) ks (λ l i. length-map l.1 f)

      spokes_renamed : (ks : List Loop) → spokes (map (renamed f) ks) ≡ spokes ks
      spokes_renamed ks =
          sum_map (λ (l : Loop). cond (has_centre l) (length l.1) 0) (renamed f) ks
          ∙ sum_agree (λ (l : Loop). cond (has_centre (renamed f l)) (length (map f l.1)) 0) (λ (l : Loop). cond (has_centre l) (length l.1) 0) ks
          (λ l i. ap (λ k. cond (nat_lt 3 k) k 0) (length-map l.1 f))

      faces_renamed : (ks : List Loop) → faces (map (renamed f) ks) ≡ faces ks
      faces_renamed ks =
          sum_map (λ (l : Loop). cond (has_centre l) (length l.1) 1) (renamed f) ks
          ∙ sum_agree (λ (l : Loop). cond (has_centre (renamed f l)) (length (map f l.1)) 1) (λ (l : Loop). cond (has_centre l) (length l.1) 1) ks
          (λ l i. ap (λ k. cond (nat_lt 3 k) k 1) (length-map l.1 f))

      centres_renamed : (ks : List Loop) → centres (map (renamed f) ks) ≡ centres ks
      centres_renamed ks = count-map has_centre (renamed f) ks ∙ count_agree (λ l. has_centre (renamed f l)) has_centre ks (λ l i. centre_alike l)

      border_renamed : (ks : List Loop) → ((l : Loop) → In l ks → In l ls) → rims_where in_outer_plane (map (renamed f) ks) ≡ rims_where border ks
      border_renamed ks all =
          sum_map (λ (l : Loop). count_by (λ (p : ℕ × ℕ). in_outer_plane p.0 p.1) (around l.1)) (renamed f) ks
          ∙ sum_agree (λ (l : Loop). count_by (λ (p : ℕ × ℕ). in_outer_plane p.0 p.1) (around (map f l.1))) (λ (l : Loop). count_by (λ (p : ℕ × ℕ). border p.0 p.1) (around l.1)) ks
          (λ l i. ap (count_by (λ (p : ℕ × ℕ). in_outer_plane p.0 p.1)) (sym (around_map f l.1))
          ∙ (count-map (λ (p : ℕ × ℕ). in_outer_plane p.0 p.1) (on_pair f) (around l.1)
          ∙ count_agree (λ (p : ℕ × ℕ). in_outer_plane (f p.0) (f p.1)) (λ (p : ℕ × ℕ). border p.0 p.1) (around l.1)
          (λ p j. let e : In p.0 l.1 × In p.1 l.1 = step_ends l.1 p j in alike p.0 p.1 (known l p.0 (all l i) e.0) (known l p.1 (all l i) e.1))))

      part_renamed : (least crossings : ℕ) (ks : List Loop) → ((l : Loop) → In l ks → In l ls) → part_by in_outer_plane least crossings (map (renamed f) ks) ≡ part_by border least crossings ks
      part_renamed least crossings ks all =
          let b : rims_where in_outer_plane (map (renamed f) ks) ≡ rims_where border ks = border_renamed ks all in
          same_part least (crossings + centres (map (renamed f) ks)) (crossings + centres ks) (edges_round in_outer_plane (map (renamed f) ks)) (edges_round border ks)
          (faces (map (renamed f) ks)) (faces ks) (rims_where in_outer_plane (map (renamed f) ks)) (rims_where border ks)
          (ap (λ k. crossings + k) (centres_renamed ks))
          (ap (λ k. (k + rims_where in_outer_plane (map (renamed f) ks)) / 2 + spokes (map (renamed f) ks)) (rims_renamed ks)
          ∙ (ap (λ k. (rims ks + k) / 2 + spokes (map (renamed f) ks)) b ∙ ap (λ k. (rims ks + rims_where border ks) / 2 + k) (spokes_renamed ks)))
          (faces_renamed ks) b

      ours : (k : ℕ) (l : Loop) → In l (class_loops ls k) → In l ls
      ours k l i = (In-filter (is_of_class ls k) l ls i).0

      class_part_renamed : (k : ℕ) → In k edges → class_part (λ v. v) (map f edges) in_outer_plane others (f k) ≡ class_part f edges border ls k
      class_part_renamed k j =
          let c : count_by (λ v. eqb (class_of others v) (f k)) (map f edges) ≡ count_by (λ v. eqb (class_of ls v) k) edges
          = count-map (λ v. eqb (class_of others v) (f k)) f edges ∙ count_agree (λ v. eqb (class_of others (f v)) (f k)) (λ v. eqb (class_of ls v) k) edges (λ v i. class_test v k i j) in
          ap (λ n. part_by in_outer_plane (f k) n (class_loops others (f k))) c
          ∙ (ap (part_by in_outer_plane (f k) (count_by (λ v. eqb (class_of ls v) k) edges)) (loops_renamed k j)
          ∙ part_renamed (f k) (count_by (λ v. eqb (class_of ls v) k) edges) (class_loops ls k) (ours k))

      pub summary_renamed : loop_summary (λ v. v) (map f edges) in_outer_plane others ≡ loop_summary f edges border ls
      summary_renamed =
          let t : part_by in_outer_plane 0 (length (map f edges)) others ≡ part_by border 0 (length edges) ls
          = ap (λ n. part_by in_outer_plane 0 n others) (length-map edges f) ∙ part_renamed 0 (length edges) ls (λ l i. i) in
          let p : map (class_part (λ v. v) (map f edges) in_outer_plane others) (classes (map f edges) others) ≡ map (class_part f edges border ls) (classes edges ls)
          = ap (map (class_part (λ v. v) (map f edges) in_outer_plane others)) classes_renamed
          ∙ (map_map (class_part (λ v. v) (map f edges) in_outer_plane others) f (classes edges ls)
          ∙ map_agree (λ k. class_part (λ v. v) (map f edges) in_outer_plane others (f k)) (class_part f edges border ls) (classes edges ls)
          (λ k i. class_part_renamed k (In-filter (λ v. eqb (class_of ls v) v) k edges i).0)) in
          both _ _ _ _ t p
        where
          both : (a b : Part) (x y : List Part) → a ≡ b → x ≡ y → ◌≡◌ {A = Summary} (record { total = a; parts = x }) (record { total = b; parts = y })
          both a b x y e f = rw (e, f) refl

      module _ (at : ℕ → Vector) where
        abbrev there : ℕ → Vector
        there v = at (f v)

        swept_renamed : (vs : List ℕ) → swept at (map f vs) ≡ swept there vs
        swept_renamed vs =
            let one : (i : Vector → ℤ) → total (λ (p : ℕ × ℕ). i (cross (at p.0) (at p.1))) (around (map f vs)) ≡ total (λ (p : ℕ × ℕ). i (cross (there p.0) (there p.1))) (around vs)
            = λ i. ap (total (λ (p : ℕ × ℕ). i (cross (at p.0) (at p.1)))) (sym (around_map f vs)) ∙ total-map (λ (p : ℕ × ℕ). i (cross (at p.0) (at p.1))) (on_pair f) (around vs) in
            let a = one (λ (v : Vector). v.0) in
            let b = one (λ (v : Vector). v.1) in
            let c = one (λ (v : Vector). v.2) in
            λ i. (a i, b i, c i)

        tip_renamed : (l : Loop) → In l ls → tip (renamed f l) ≡ f (tip l)
        tip_renamed l i =
            ap (λ b. cond b (f l.0) (first_of (renamed f l))) (centre_alike l) ∙ (ap (λ z. cond (has_centre l) (f l.0) z) (first_renamed l i) ∙ choose (has_centre l))
          where
            choose : (b : Bool) → cond b (f l.0) (f (first_of l)) ≡ f (cond b l.0 (first_of l))
            choose true = refl
            choose false = refl

        six_renamed : (l : Loop) → In l ls → six_of at (renamed f l) ≡ six_of there l
        six_renamed l i = ap (λ v. dot (at v) (swept at (map f l.1))) (tip_renamed l i) ∙ ap (dot (at (f (tip l)))) (swept_renamed l.1)

        share_renamed : (k : ℕ) (ks : List Loop) → ((l : Loop) → In l ks → In l ls) → share_round in_outer_plane at k (map (renamed f) ks) ≡ share_round border there k ks
        share_renamed k ks all =
            let s : total (six_of at) (map (renamed f) ks) ≡ total (six_of there) ks
            = total-map (six_of at) (renamed f) ks ∙ total_in (λ l. six_of at (renamed f l)) (six_of there) ks (λ l i. six_renamed l (all l i)) in
            let one : (i : Vector → ℤ) → total (λ (l : Loop). i (swept at l.1)) (map (renamed f) ks) ≡ total (λ (l : Loop). i (swept there l.1)) ks
            = λ i. total-map (λ (l : Loop). i (swept at l.1)) (renamed f) ks
            ∙ total_in (λ (l : Loop). i (swept at (map f l.1))) (λ (l : Loop). i (swept there l.1)) ks (λ l j. ap i (swept_renamed l.1)) in
            let a = one (λ (v : Vector). v.0) in
            let b = one (λ (v : Vector). v.1) in
            let c = one (λ (v : Vector). v.2) in
            let area : area_round at (map (renamed f) ks) ≡ area_round there ks = λ i. (a i, b i, c i) in
            same (total (six_of at) (map (renamed f) ks)) (total (six_of there) ks) (area_round at (map (renamed f) ks)) (area_round there ks)
            (rims_where in_outer_plane (map (renamed f) ks)) (rims_where border ks) s area (border_renamed ks all)
          where
            same : (s s' : ℤ) (a a' : Vector) (b b' : ℕ) → s ≡ s' → a ≡ a' → b ≡ b'
                → ◌≡◌ {A = Share} (record { least = k; six = s; area = coordinates a; border = b }) (record { least = k; six = s'; area = coordinates a'; border = b' })
            same s s' a a' b b' e f g = rw (e, f, g) refl

        pub measures_renamed : loop_measures (λ v. v) (map f edges) in_outer_plane others at ≡ loop_measures f edges border ls there
        measures_renamed =
            ap (map (λ k. share_round in_outer_plane at k (class_loops others k))) classes_renamed
            ∙ (map_map (λ k. share_round in_outer_plane at k (class_loops others k)) f (classes edges ls)
            ∙ map_agree (λ k. share_round in_outer_plane at (f k) (class_loops others (f k))) (λ k. share_round border there (f k) (class_loops ls k)) (classes edges ls)
            (λ k i. ap (share_round in_outer_plane at (f k)) (loops_renamed k (In-filter (λ v. eqb (class_of ls v) v) k edges i).0)
            ∙ share_renamed (f k) (class_loops ls k) (ours k)))
