-- The report and the measures, by labels.
use Rattle.std.proofs.Common.{◌≡◌, ◌⊎◌, ℕ, zero, suc, ◌+◌, ◌<◌, ◌≤◌, ℤ, Bool, true, false, cond, ◌||◌, not, List, [], ◌∷◌, map, length, slice_index, refl, sym, ◌∙◌, ap, ap₂, subst, inl, inr, arith, eqb}
use Rattle.std.specs.List.{filter, list_any, count_by, range_with_len}
use Rattle.std.proofs.lemmas.Bool.{cases_Bool, cases_eq, both_ways, eq-eqb, eqb-true, ne_eqb}
use Rattle.iso_defs.specs.Grid.{Grid, name_bound, IsThick, is_crossing}
use Rattle.iso_defs.specs.Lists.{below, is_in, least_of}
use Rattle.iso_defs.specs.Scratch.{crossing_edges, number_of, triangles, vertices}
use Rattle.iso_defs.specs.Manifold.{share_outer_plane}
use Rattle.triangle_laws.proofs.Lists.{In, In-filter, In-map, any_in, in_any, in_map}
use Rattle.triangle_laws.proofs.Counts.{count_agree}
use Rattle.triangle_laws.proofs.Fans.{in_is_in}
use Rattle.mesh_laws.proofs.Cells.{range_at_least}
use Rattle.mesh_laws.proofs.Oriented.{Ascending}
use Rattle.measure_laws.specs.Vectors.{Vector}
use Rattle.mesh_report.specs.Report.{summary_of}
use Rattle.measure.specs.Measures.{measures_of}
use Rattle.part_laws.specs.Loops.{AreLong, Loop, mesh_loops}
use Rattle.part_laws.specs.Classes.{class_of}
use Rattle.part_laws.specs.Labels.{unlabelled}
use Rattle.part_laws.specs.Parts.{class_loops, classes, class_part, part_by}
use Rattle.part_laws.specs.Swept.{share_round}
use Rattle.part_laws.specs.Meets.{IsLabelling, is_met, least_joined}
use Rattle.part_laws.specs.ByLabels.{firsts, loops_named, named_shares, named_summary}
use Rattle.part_laws.proofs.ClassLaws.{class_again, class_kept, class_low, class_more, class_none, least_found}
use Rattle.part_laws.proofs.Counted.{filter_agree, filter_all}
use Rattle.part_laws.proofs.FirstMet.{edge_looped}
use Rattle.part_laws.proofs.LabelLaws.{joined_in, joined_one, met_in, one_joined, one_root, own_in, rooted}
use Rattle.part_laws.proofs.LabelSums.{loops_labelled}
use Rattle.part_laws.proofs.MeshParts.{loops_are_long, measures_are, summary_is}
use Rattle.part_laws.proofs.Numbered.{loops_cross}

map_in_agree : {A B : Type 0} (f h : A → B) (xs : List A) → ((x : A) → In x xs → f x ≡ h x) → map f xs ≡ map h xs
map_in_agree f h [] k = refl
map_in_agree f h (x ∷ xs) k = ap₂ (λ y ys. y ∷ ys) (k x (inl refl)) (map_in_agree f h xs (λ y i. k y (inr i)))

-- the class of a vertex is the vertex itself, or a vertex of a loop
class_met : (ls : List Loop) (v : ℕ) → (class_of ls v ≡ v) ⊎ ((l : Loop) × In l ls × In (class_of ls v) l.1)
class_met [] v = inl (class_none v)
class_met (l ∷ ls) v =
    elim (cases_Bool (is_in (class_of ls v) (map (class_of ls) l.1))) [
      | inr e ↦ (
          let k : class_of (l ∷ ls) v ≡ class_of ls v = class_kept l ls v e in
          elim (class_met ls v) [
            | inl q ↦ inl (k ∙ q)
            | inr r ↦ inr (r.0, inr r.1, subst (λ z. In z r.0.1) (sym k) r.2)
          ])
      | inl e ↦ (
          let i : In (class_of ls v) (map (class_of ls) l.1) = in_is_in (class_of ls v) (map (class_of ls) l.1) e in
          let j : In (least_of (map (class_of ls) l.1)) (map (class_of ls) l.1) = (least_found (map (class_of ls) l.1) (class_of ls v) i).0 in
          let w : (w : ℕ) × In w l.1 × (least_of (map (class_of ls) l.1) ≡ class_of ls w) = In-map (class_of ls) (least_of (map (class_of ls) l.1)) l.1 j in
          let k : class_of (l ∷ ls) v ≡ class_of ls w.0 = class_more l ls v e ∙ w.2 in
          elim (class_met ls w.0) [
            | inl q ↦ inr (l, inl refl, subst (λ z. In z l.1) (sym (k ∙ q)) w.1)
            | inr r ↦ inr (r.0, inr r.1, subst (λ z. In z r.0.1) (sym k) r.2)
          ])
    ]

-- Where f tells what class tells, and each class is named by one of the list that is not greater, the classes are those of which f tells for the first time.
module _ (c f : ℕ → ℕ) (all : List ℕ) (inside : (e : ℕ) → In e all → In (c e) all) (low : (e : ℕ) → c e ≤ e) (again : (e : ℕ) → c (c e) ≡ c e)
    (to : (d e : ℕ) → In d all → In e all → c d ≡ c e → f d ≡ f e) (from : (d e : ℕ) → In d all → In e all → f d ≡ f e → c d ≡ c e) where
  abbrev told : List ℕ → ℕ → Bool
  told before d = list_any (λ e. eqb (f d) (f e)) before

  new_is : (before : List ℕ) (e : ℕ) (xs : List ℕ) → filter (λ d. not (told before d)) (filter (λ d. not (eqb (f d) (f e))) xs) ≡ filter (λ d. not (told (e ∷ before) d)) xs
  new_is before e [] = refl
  new_is before e (x ∷ xs) = go (eqb (f x) (f e)) refl (new_is before e xs)
    where
      go : (b : Bool) → eqb (f x) (f e) ≡ b → filter (λ d. not (told before d)) (filter (λ d. not (eqb (f d) (f e))) xs) ≡ filter (λ d. not (told (e ∷ before) d)) xs
          → filter (λ d. not (told before d)) (cond (not b) (x ∷ filter (λ d. not (eqb (f d) (f e))) xs) (filter (λ d. not (eqb (f d) (f e))) xs))
          ≡ filter (λ d. not (told (e ∷ before) d)) (x ∷ xs)
      go true h ih = ih ∙ ap (λ a. cond (not (a || told before x)) (x ∷ filter (λ d. not (told (e ∷ before) d)) xs) (filter (λ d. not (told (e ∷ before) d)) xs)) (sym h)
      go false h ih =
          ap (λ ys. cond (not (told before x)) (x ∷ ys) ys) ih
          ∙ ap (λ a. cond (not (a || told before x)) (x ∷ filter (λ d. not (told (e ∷ before) d)) xs) (filter (λ d. not (told (e ∷ before) d)) xs)) (sym h)

  pub named_first : (before rest : List ℕ) → ((e : ℕ) → In e all → In e before ⊎ In e rest) → ((e : ℕ) → In e before → In e all) → ((e : ℕ) → In e rest → In e all)
      → ((d e : ℕ) → In d before → In e rest → d < e) → Ascending rest
      → filter (λ e. eqb (c e) e) rest ≡ filter (λ e. not (told before e)) (firsts f rest)
  named_first before [] parts b r less up = refl
  named_first before (e ∷ rest) parts b r less up =
      let here : eqb (c e) e ≡ not (told before e) = first in
      let later : filter (λ d. eqb (c d) d) rest ≡ filter (λ d. not (told (e ∷ before) d)) (firsts f rest)
      = named_first (e ∷ before) rest parts'
      (λ d i. elim i [ inl q ↦ subst (λ z. In z all) (sym q) (r e (inl refl)) | inr j ↦ b d j ])
      (λ d i. r d (inr i))
      (λ d k i j. elim i [ inl q ↦ subst (λ z. z < k) (sym q) (up.0 k j) | inr m ↦ less d k m (inr j) ])
      up.1 in
      ap₂ (λ a ys. cond a (e ∷ ys) ys) here (later ∙ sym (new_is before e (firsts f rest)))
    where
      parts' : (d : ℕ) → In d all → In d (e ∷ before) ⊎ In d rest
      parts' d i = elim (parts d i) [ inl j ↦ inl (inr j) | inr (inl q) ↦ inl (inl q) | inr (inr j) ↦ inr j ]

      e_in : In e all
      e_in = r e (inl refl)

      first : eqb (c e) e ≡ not (told before e)
      first =
          elim (cases_Bool (told before e)) [
            | inl t ↦ (
                let d : (d : ℕ) × In d before × (eqb (f e) (f d) ≡ true) = in_any (λ d. eqb (f e) (f d)) before t in
                let same : c e ≡ c d.0 = from e d.0 e_in (b d.0 d.1) (eqb-true (f e) (f d.0) d.2) in
                let l : d.0 < e = less d.0 e d.1 (inl refl) in
                let m : c d.0 ≤ d.0 = low d.0 in
                ne_eqb (c e) e (λ q. absurd (omega arith)) ∙ ap not (sym t))
            | inr t ↦ (
                let q : c e ≡ e
                = elim (cases_eq (c e) e) [
                  | inl q ↦ q
                  | inr n ↦ (
                      let i : In (c e) all = inside e e_in in
                      let m : c e ≤ e = low e in
                      elim (parts (c e) i) [
                        | inl j ↦ (
                            let s : f e ≡ f (c e) = to e (c e) e_in i (sym (again e)) in
                            absurd (both_ways (told before e) t (any_in (λ d. eqb (f e) (f d)) before (c e) j (eq-eqb (f e) (f (c e)) s))))
                        | inr (inl q) ↦ q
                        | inr (inr j) ↦ (let l : e < c e = up.0 (c e) j in absurd (omega arith))
                      ])
                ] in
                eq-eqb (c e) e q ∙ ap not (sym t))
          ]

asc_range : (a n : ℕ) → Ascending (range_with_len a n)
asc_range a zero = tt
asc_range a (suc n) = ((λ y i. let r : (a + 1 ≤ y) × (y < a + 1 + n) = range_at_least (a + 1) n y i in omega arith), asc_range (a + 1) n)

asc_filter : (p : ℕ → Bool) (xs : List ℕ) → Ascending xs → Ascending (filter p xs)
asc_filter p [] a = tt
asc_filter p (x ∷ xs) a =
    elim (p x) as (λ b. Ascending (cond b (x ∷ filter p xs) (filter p xs))) [
      | true ↦ ((λ y i. a.0 y (In-filter p y xs i).0), asc_filter p xs a.1)
      | false ↦ asc_filter p xs a.1
    ]

module _ (g : Grid) (s : ℕ → ℤ) (thick : IsThick g) (xs : List (ℕ × Loop)) (ps : List (ℕ × ℕ)) (label : ℕ → ℕ) (loops : unlabelled xs ≡ mesh_loops g s) (h : IsLabelling xs ps label) where
  abbrev ls : List Loop
  ls = unlabelled xs

  abbrev edges : List ℕ
  edges = crossing_edges g s

  abbrev name : ℕ → ℕ
  name = least_joined ps

  abbrev f : ℕ → ℕ
  f e = name (label e)

  edge_met : (e : ℕ) → In e edges → is_met xs e ≡ true
  edge_met e i =
      let m : (m : Loop) × In m (mesh_loops g s) × In e m.1 = edge_looped g s e thick i in
      let x = In-map (λ (x : ℕ × Loop). x.1) m.0 xs (subst (λ ks. In m.0 ks) (sym loops) m.1) in
      met_in xs x.0 e x.1 (subst (λ (l : Loop). In e l.1) x.2 m.2)

  class_inside : (e : ℕ) → In e edges → In (class_of ls e) edges
  class_inside e i =
      elim (class_met ls e) [
        | inl q ↦ subst (λ z. In z edges) (sym q) i
        | inr r ↦ loops_cross g s r.0 (class_of ls e) (subst (λ ks. In r.0 ks) loops r.1) r.2
      ]

  to : (d e : ℕ) → In d edges → In e edges → class_of ls d ≡ class_of ls e → f d ≡ f e
  to d e i j q = one_joined xs ps label h d e q

  from : (d e : ℕ) → In d edges → In e edges → f d ≡ f e → class_of ls d ≡ class_of ls e
  from d e i j q = joined_one xs ps label h d e (edge_met d i) (edge_met e j) q

  pub classes_first : classes edges ls ≡ firsts f edges
  classes_first =
      named_first (class_of ls) f edges class_inside (class_low ls) (class_again ls) to from [] edges
      (λ e i. inr i) (λ e i. absurd i) (λ e i. i) (λ d e i j. absurd i) (asc_filter (is_crossing g s) (below (name_bound g)) (asc_range 0 (name_bound g)))
      ∙ filter_all (λ e. not (told (class_of ls) f edges class_inside (class_low ls) (class_again ls) to from [] e)) (firsts f edges) (λ e i. refl)

  long : AreLong ls
  long = subst AreLong (sym loops) (loops_are_long g s)

  same_test : (a b c d : ℕ) → (a ≡ b → c ≡ d) → (c ≡ d → a ≡ b) → eqb a b ≡ eqb c d
  same_test a b c d to from =
      elim (cases_eq a b) [
        | inl e ↦ eq-eqb a b e ∙ sym (eq-eqb c d (to e))
        | inr n ↦ ne_eqb a b n ∙ sym (ne_eqb c d (λ q. n (from q)))
      ]

  -- of a class, by its least edge
  module _ (k : ℕ) (i : In k edges) (is : class_of ls k ≡ k) where
    pub edges_named : count_by (λ e. eqb (class_of ls e) k) edges ≡ count_by (λ e. eqb (f e) (f k)) edges
    edges_named =
        count_agree (λ e. eqb (class_of ls e) k) (λ e. eqb (f e) (f k)) edges
        (λ e j. same_test (class_of ls e) k (f e) (f k) (λ q. to e k j i (q ∙ sym is)) (λ q. from e k j i q ∙ is))

    pub loops_are_named : class_loops ls k ≡ loops_named xs name (f k)
    loops_are_named =
        loops_labelled xs (λ a. class_of ls (h.began a)) k (rooted xs ps label h long)
        ∙ ap (map (λ (x : ℕ × Loop). x.1))
        (filter_agree (λ (x : ℕ × Loop). eqb (class_of ls (h.began x.0)) k) (λ (x : ℕ × Loop). eqb (name x.0) (f k)) xs (λ x j. same_test (class_of ls (h.began x.0)) k (name x.0) (f k) (there x j) (back x)))
      where
        at_k : class_of ls k ≡ class_of ls (h.began (label k))
        at_k =
            (let m : (m : Loop) × In m (mesh_loops g s) × In k m.1 = edge_looped g s k thick i in
            let x = In-map (λ (x : ℕ × Loop). x.1) m.0 xs (subst (λ ks. In m.0 ks) (sym loops) m.1) in
            own_in xs ps label h x.0 k x.1 (subst (λ (l : Loop). In k l.1) x.2 m.2))

        back : (x : ℕ × Loop) → name x.0 ≡ f k → class_of ls (h.began x.0) ≡ k
        back x q = one_root xs ps label h x.0 (label k) q ∙ (sym at_k ∙ is)

        first_in : (vs : List ℕ) → 3 ≤ length vs → In (slice_index vs 0) vs
        first_in [] l = absurd (omega arith)
        first_in (v ∷ vs) l = inl refl

        long_in : (ks : List Loop) → AreLong ks → (l : Loop) → In l ks → 3 ≤ length l.1
        long_in [] a l j = absurd j
        long_in (m ∷ ks) a l (inl e) = subst (λ (l : Loop). 3 ≤ length l.1) (sym e) a.0
        long_in (m ∷ ks) a l (inr j) = long_in ks a.1 l j

        there : (x : ℕ × Loop) → In x xs → class_of ls (h.began x.0) ≡ k → name x.0 ≡ f k
        there x j q =
            (let v : ℕ = slice_index x.1.1 0 in
            let m : In v x.1.1 = first_in x.1.1 (long_in ls long x.1 (in_map (λ (x : ℕ × Loop). x.1) x xs j)) in
            let n : f v ≡ name x.0 = joined_in xs ps label h x v j m in
            let o : class_of ls v ≡ k = own_in xs ps label h x v j m ∙ (one_root xs ps label h (label v) x.0 n ∙ q) in
            sym n ∙ one_joined xs ps label h v k (o ∙ sym is))

  pub class_in : (k : ℕ) → In k (classes edges ls) → In k edges × (class_of ls k ≡ k)
  class_in k j = let r : In k edges × (eqb (class_of ls k) k ≡ true) = In-filter (λ e. eqb (class_of ls e) e) k edges j in (r.0, eqb-true (class_of ls k) k r.1)

  pub summary_named : summary_of (length (vertices g s)) (triangles g s) ≡ named_summary g s xs name label
  summary_named =
      summary_is g s thick
      ∙ ap₂ (λ t qs. record { total = t; parts = qs })
      (ap (part_by (share_outer_plane g) 0 (length edges)) (sym loops))
      (ap (λ ks. map (class_part (number_of g s) edges (share_outer_plane g) ks) (classes edges ks)) (sym loops)
      ∙ (map_in_agree (class_part (number_of g s) edges (share_outer_plane g) ls)
      (λ k. part_by (share_outer_plane g) (number_of g s k) (count_by (λ e. eqb (f e) (f k)) edges) (loops_named xs name (f k))) (classes edges ls)
      (λ k j. let r = class_in k j in ap₂ (part_by (share_outer_plane g) (number_of g s k)) (edges_named k r.0 r.1) (loops_are_named k r.0 r.1))
      ∙ ap (map (λ k. part_by (share_outer_plane g) (number_of g s k) (count_by (λ e. eqb (f e) (f k)) edges) (loops_named xs name (f k)))) classes_first))

  pub shares_named : (at : ℕ → Vector) → measures_of (length (vertices g s)) (triangles g s) at ≡ named_shares g s xs name label at
  shares_named at =
      let share : ℕ → List Loop → _ = λ k ks. share_round (share_outer_plane g) (λ v. at (number_of g s v)) (number_of g s k) ks in
      measures_are g s thick at
      ∙ (ap (λ ks. map (λ k. share k (class_loops ks k)) (classes edges ks)) (sym loops)
      ∙ (map_in_agree (λ k. share k (class_loops ls k)) (λ k. share k (loops_named xs name (f k))) (classes edges ls)
      (λ k j. let r = class_in k j in ap (share k) (loops_are_named k r.0 r.1))
      ∙ ap (map (λ k. share k (loops_named xs name (f k)))) classes_first))
