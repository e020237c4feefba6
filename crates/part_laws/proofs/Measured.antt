-- The measures of a mesh are those of its loops.
use Rattle.std.proofs.Common.{◌≡◌, ℕ, ◌≤◌, ℤ, ◌+ℤ◌, Bool, true, false, cond, List, [], ◌∷◌, ◌++◌, map, length, refl, sym, ◌∙◌, ap, inl, inr, eqb}
use Rattle.std.specs.List.{filter, flat_map}
use Rattle.std.proofs.lemmas.Bool.{cases_Bool}
use Rattle.iso_defs.specs.Lists.{below}
use Rattle.iso_defs.specs.Cell.{Triangle}
use Rattle.triangle_laws.proofs.Lists.{In, In-filter}
use Rattle.measure_laws.specs.Vectors.{Vector, det_of, normal_of, total, area_of}
use Rattle.measure_laws.proofs.Totals.{total-flat_map}
use Rattle.mesh_report.specs.Report.{component}
use Rattle.measure.specs.declared.share.Share.{Share}
use Rattle.measure.specs.Measures.{coordinates, border_in, is_of, measures_of, share_of, triangles_in}
use Rattle.part_laws.specs.Loops.{Loop, triangles_round, rims_where}
use Rattle.part_laws.specs.Classes.{is_of_class}
use Rattle.part_laws.specs.Parts.{classes}
use Rattle.part_laws.specs.Swept.{swept, six_of, area_round, share_round, loop_measures}
use Rattle.part_laws.proofs.Rounds.{map_agree}
use Rattle.part_laws.proofs.Joined.{AreLoops, first_of, first_in, CornerOf, corners_of, corner_component, component_class}
use Rattle.part_laws.proofs.Counted.{filter_all, filter_none, filter_agree, border_by_loops}
use Rattle.part_laws.proofs.Summed.{components_by_loops}
use Rattle.part_laws.proofs.Spans.{round_area, round_six}

pub total_in : {A : Type 0} (f g : A → ℤ) (xs : List A) → ((x : A) → In x xs → f x ≡ g x) → total f xs ≡ total g xs
total_in f g [] h = refl
total_in f g (x ∷ xs) h = ap (λ z. z +ℤ total f xs) (h x (inl refl)) ∙ ap (λ z. g x +ℤ z) (total_in f g xs (λ y i. h y (inr i)))

-- the triangles that pass a test which says the same of all triangles of a loop
filter_rounds : (P : Triangle → Bool) (R : Loop → Bool) (ls : List Loop) → ((l : Loop) (t : Triangle) → In l ls → In t (triangles_round l) → P t ≡ R l)
    → filter P (flat_map triangles_round ls) ≡ flat_map triangles_round (filter R ls)
filter_rounds P R [] h = refl
filter_rounds P R (l ∷ ls) h =
    filter_join (triangles_round l) (flat_map triangles_round ls)
    ∙ (ap (λ us. filter P (triangles_round l) ++ us) (filter_rounds P R ls (λ k t i. h k t (inr i)))
    ∙ (elim (cases_Bool (R l)) [
      | inl e ↦ ap (λ us. us ++ flat_map triangles_round (filter R ls)) (filter_all P (triangles_round l) (λ t i. h l t (inl refl) i ∙ e))
          ∙ sym (ap (λ b. flat_map triangles_round (cond b (l ∷ filter R ls) (filter R ls))) e)
      | inr e ↦ ap (λ us. us ++ flat_map triangles_round (filter R ls)) (filter_none P (triangles_round l) (λ t i. h l t (inl refl) i ∙ e))
          ∙ sym (ap (λ b. flat_map triangles_round (cond b (l ∷ filter R ls) (filter R ls))) e)
    ]))
  where
    filter_join : (xs ys : List Triangle) → filter P (xs ++ ys) ≡ filter P xs ++ filter P ys
    filter_join [] ys = refl
    filter_join (x ∷ xs) ys = elim (P x) as (λ b. cond b (x ∷ filter P (xs ++ ys)) (filter P (xs ++ ys)) ≡ cond b (x ∷ filter P xs) (filter P xs) ++ filter P ys) [
      | true ↦ ap (λ l. x ∷ l) (filter_join xs ys)
      | false ↦ filter_join xs ys
    ]

module _ (m n : ℕ) (in_outer_plane : ℕ → ℕ → Bool) (ls : List Loop) (h : AreLoops m n in_outer_plane ls) where
  abbrev ts : List Triangle
  ts = flat_map triangles_round ls

  -- the triangles of a component are those of the loops of the class
  pub triangles_by_loops : (k : ℕ) → triangles_in n ts k ≡ flat_map triangles_round (filter (is_of_class ls k) ls)
  triangles_by_loops k =
      filter_rounds (is_of n ts k) (is_of_class ls k) ls (λ l t i j.
      ap (λ z. eqb z k)
      (corner_component m n in_outer_plane ls h l t.0 i (inl (corners_of l (h.long l i) t j).0)
      ∙ component_class m n in_outer_plane ls h (first_of l) (h.low l (first_of l) i (first_in l.1 (h.long l i)))))

  border_is : (k : ℕ) → border_in n ts k ≡ rims_where in_outer_plane (filter (is_of_class ls k) ls)
  border_is k =
      let T : ℕ → Bool = λ v. eqb (component n ts v) k in
      let alike : (l : Loop) (v : ℕ) → In l ls → CornerOf l v → T v ≡ T (first_of l) = λ l v i c. ap (λ z. eqb z k) (corner_component m n in_outer_plane ls h l v i c) in
      border_by_loops m n in_outer_plane ls h T alike
      ∙ ap (rims_where in_outer_plane) (filter_agree (λ (l : Loop). T (first_of l)) (is_of_class ls k) ls
      (λ l i. ap (λ z. eqb z k) (component_class m n in_outer_plane ls h (first_of l) (h.low l (first_of l) i (first_in l.1 (h.long l i))))))

  module _ (at : ℕ → Vector) where
    long_in : (some : Loop → Bool) (l : Loop) → In l (filter some ls) → 3 ≤ length l.1
    long_in some l i = h.long l (In-filter some l ls i).0

    six_is : (some : Loop → Bool) → total (det_of at) (flat_map triangles_round (filter some ls)) ≡ total (six_of at) (filter some ls)
    six_is some =
        total-flat_map (det_of at) triangles_round (filter some ls)
        ∙ total_in (λ l. total (det_of at) (triangles_round l)) (six_of at) (filter some ls) (λ l i. round_six at l (long_in some l i))

    area_is : (some : Loop → Bool) → area_of at (flat_map triangles_round (filter some ls)) ≡ area_round at (filter some ls)
    area_is some =
        let ours : List Loop = filter some ls in
        let a = total-flat_map (λ t. (normal_of at t).0) triangles_round ours
        ∙ total_in (λ l. total (λ t. (normal_of at t).0) (triangles_round l)) (λ (l : Loop). (swept at l.1).0) ours (λ l i. ap (λ (v : Vector). v.0) (round_area at l (long_in some l i))) in
        let b = total-flat_map (λ t. (normal_of at t).1) triangles_round ours
        ∙ total_in (λ l. total (λ t. (normal_of at t).1) (triangles_round l)) (λ (l : Loop). (swept at l.1).1) ours (λ l i. ap (λ (v : Vector). v.1) (round_area at l (long_in some l i))) in
        let c = total-flat_map (λ t. (normal_of at t).2) triangles_round ours
        ∙ total_in (λ l. total (λ t. (normal_of at t).2) (triangles_round l)) (λ (l : Loop). (swept at l.1).2) ours (λ l i. ap (λ (v : Vector). v.2) (round_area at l (long_in some l i))) in
        λ i. (a i, b i, c i)

    share_by_loops : (k : ℕ) → share_of n ts at k ≡ share_round in_outer_plane at k (filter (is_of_class ls k) ls)
    unfolding share_of
    share_by_loops k =
        let ours : List Loop = filter (is_of_class ls k) ls in
        same (total (det_of at) (triangles_in n ts k)) (total (six_of at) ours) (area_of at (triangles_in n ts k)) (area_round at ours) (border_in n ts k) (rims_where in_outer_plane ours)
        (ap (total (det_of at)) (triangles_by_loops k) ∙ six_is (is_of_class ls k))
        (ap (area_of at) (triangles_by_loops k) ∙ area_is (is_of_class ls k))
        (border_is k)
      where
        same : (s s' : ℤ) (a a' : Vector) (b b' : ℕ) → s ≡ s' → a ≡ a' → b ≡ b'
            → ◌≡◌ {A = Share} (record { least = k; six = s; area = coordinates a; border = b }) (record { least = k; six = s'; area = coordinates a'; border = b' })
        same s s' a a' b b' e f g = rw (e, f, g) refl

    pub measures_by_loops : measures_of n ts at ≡ loop_measures (λ v. v) (below m) in_outer_plane ls at
    measures_by_loops =
        ap (map (share_of n ts at)) (components_by_loops m n in_outer_plane ls h)
        ∙ map_agree (share_of n ts at) (λ k. share_round in_outer_plane at k (filter (is_of_class ls k) ls)) (classes (below m) ls) (λ k i. share_by_loops k)
