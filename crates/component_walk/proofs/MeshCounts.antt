-- What is counted of the loops of a mesh and of its components.
use Rattle.std.proofs.Common.{◌≡◌, ◌∙◌, ℕ, zero, suc, ◌+◌, ◌*◌, ◌<◌, ◌≤◌, ℤ, ◌+ℤ◌, Bool, true, false, cond, List, [], ◌∷◌, map, length, get_or, All, refl, sym, ap, ap₂, subst, arith, eqb}
use Rattle.std.proofs.lemmas.List.{get_or-map, length-map, same_lists}
use Rattle.std.proofs.lemmas.List.FromFn.{length-range_with_len}
use Rattle.std.proofs.lemmas.List.Sums.{count_by-le-length, length-filter, sum_by-cons}
use Rattle.std.specs.List.{count_by, filter, list_any, range_with_len, sum_by}
use Rattle.iso_defs.specs.Grid.{name_bound, IsThick, is_crossing}
use Rattle.iso_defs.specs.Lists.{below}
use Rattle.iso_defs.specs.Manifold.{uses, share_outer_plane}
use Rattle.iso_defs.specs.Scratch.{has_centre, number_of, triangles, vertex_names, vertices}
use Rattle.iso_base.specs.Volume.{IsGrid}
use Rattle.triangle_laws.proofs.Counts.{count-cons}
use Rattle.triangle_laws.proofs.Lists.{In, In-filter}
use Rattle.mesh_laws.proofs.Numbers.{count_less}
use Rattle.mesh_laws.proofs.Oriented.{Ascending}
use Rattle.mesh_laws.proofs.Sizes.{few_triangles, few_vertices}
use Rattle.window_laws.proofs.Ascents.{ascending-filter}
use Rattle.window_laws.proofs.EdgesInside.{ascending-edges}
use Rattle.crossing_edges.specs.Flags.{rank}
use Rattle.flat_mesh.specs.Lattice.{Leveled, heights}
use Rattle.mesh_report.specs.Report.{Summary, components, part_of, total_of, used}
use Rattle.mesh_report.specs.declared.part.Part.{Part}
use Rattle.mesh_report.proofs.NumberLaws.{filter_all}
use Rattle.mesh_report.proofs.PlaceLaws.{in_place}
use Rattle.measure_laws.specs.Vectors.{total}
use Rattle.component_labels.specs.Fronts.{row_name}
use Rattle.component_labels.specs.Labelling.{Known}
use Rattle.part_laws.specs.Classes.{class_of, is_of_class}
use Rattle.part_laws.specs.Labels.{labelled, unlabelled}
use Rattle.part_laws.specs.Loops.{Loop, centres, faces}
use Rattle.part_laws.specs.Parts.{class_loops, class_part, classes, part_by}
use Rattle.part_laws.proofs.LabelSums.{loop_totals}
use Rattle.part_laws.proofs.MeshParts.{named_long, summary_is}
use Rattle.part_laws.proofs.Numbered.{crossing_known}
use Rattle.component_walk.specs.Components.{AreComponents, IsWhole, edges_of, loops_of}
use Rattle.component_walk.specs.Counts.{AreFew, counted, fit, number, part_with}
use Rattle.component_walk.specs.Sums.{FitEach}
use Rattle.component_walk.specs.declared.components.Component.{Component}
use Rattle.component_walk.specs.declared.edges_behind.Passed.{Passed}
use Rattle.component_walk.specs.declared.tally.LoopCounts.{LoopCounts}
use Rattle.component_walk.proofs.ComponentLaws.{steps_few}
use Rattle.component_walk.proofs.CountedParts.{few_are, part_is}

-- the sum of what is said of places is the sum of what is said of elements
total_placed : {A : Type 0} (f : A → ℤ) (g : ℕ → ℤ) (at : ℕ) (xs : List A) → ((k : ℕ) (d : A) → k < length xs → f (get_or xs k d) ≡ g (at + k)) → total f xs ≡ total g (range_with_len at (length xs))
total_placed f g at [] h = refl
total_placed f g at (x ∷ xs) h =
    ap₂ (λ m n. m +ℤ n)
    (h 0 x (omega arith) ∙ ap g (let e : at + 0 ≡ at = omega arith in e))
    (total_placed f g (at + 1) xs (λ k d l. h (suc k) d (omega (arith, l)) ∙ ap g (let e : at + suc k ≡ at + 1 + k = omega arith in e)))

count_fewer : {A : Type 0} (p q : A → Bool) (xs : List A) → count_by p (filter q xs) ≤ count_by p xs
count_fewer p q [] = omega arith
count_fewer p q (x ∷ xs) = go (q x) (count_fewer p q xs)
  where
    go : (b : Bool) → count_by p (filter q xs) ≤ count_by p xs → count_by p (cond b (x ∷ filter q xs) (filter q xs)) ≤ count_by p (x ∷ xs)
    go true h = omega (arith, h, count-cons p x (filter q xs), count-cons p x xs)
    go false h = omega (arith, h, count-cons p x xs)

pub sum_fewer : {A : Type 0} (f : A → ℕ) (q : A → Bool) (xs : List A) → sum_by f (filter q xs) ≤ sum_by f xs
sum_fewer f q [] = omega arith
sum_fewer f q (x ∷ xs) = go (q x) (sum_fewer f q xs)
  where
    go : (b : Bool) → sum_by f (filter q xs) ≤ sum_by f xs → sum_by f (cond b (x ∷ filter q xs) (filter q xs)) ≤ sum_by f (x ∷ xs)
    go true h = omega (arith, h, sum_by-cons f x (filter q xs), sum_by-cons f x xs)
    go false h = omega (arith, h, sum_by-cons f x xs)

-- an ascending list, by places
ascends : (xs : List ℕ) (i j : ℕ) → Ascending xs → i < j → j < length xs → get_or xs i 0 < get_or xs j 0
ascends [] i j a l m = absurd (omega (arith, m))
ascends (x ∷ xs) zero zero a l m = absurd (omega (arith, l))
ascends (x ∷ xs) zero (suc j) a l m = a.0 (get_or xs j 0) (in_place xs j 0 (omega (arith, m)))
ascends (x ∷ xs) (suc i) zero a l m = absurd (omega (arith, l))
ascends (x ∷ xs) (suc i) (suc j) a l m = ascends xs i j a.1 (omega (arith, l)) (omega (arith, m))

module _ (v : Leveled) (grid : IsGrid v.grid) where
  thick : IsThick v.grid
  thick = record { x = grid.x.least; y = grid.y.least; z = grid.z.least }

  abbrev sum_of_all : Part
  sum_of_all = part_by (share_outer_plane v.grid) 0 (length (edges_of v)) (loops_of v)

  total_is : total_of (length (vertices v.grid (heights v))) (triangles v.grid (heights v)) ≡ sum_of_all
  total_is = ap (λ (s : Summary). s.total) (summary_is v.grid (heights v) thick)

  few_faces : faces (loops_of v) ≤ 1920000000
  unfolding total_of
  few_faces =
      let e : length (triangles v.grid (heights v)) ≡ faces (loops_of v) = ap (λ (p : Part). p.faces) total_is in
      omega (arith, e, few_triangles v.grid (heights v), grid.count)

  few_corners : length (edges_of v) + centres (loops_of v) ≤ 1120000000
  unfolding total_of
  few_corners =
      let n : ℕ = length (vertices v.grid (heights v)) in
      let is_used : ℕ → Bool = λ u. list_any (uses u) (triangles v.grid (heights v)) in
      let e : length (used n (triangles v.grid (heights v))) ≡ length (edges_of v) + centres (loops_of v) = ap (λ (p : Part). p.vertices) total_is in
      let m : length (used n (triangles v.grid (heights v))) ≤ n = omega (arith, length-filter is_used (below n), count_by-le-length is_used (below n), length-range_with_len 0 n) in
      omega (arith, e, m, few_vertices v.grid (heights v), grid.count)

  long : (l : Loop) → In l (loops_of v) → 3 ≤ length l.1
  long l i = named_long v.grid (heights v) l i

  -- the whole
  module _ (c : LoopCounts) (h : (i : ℕ) → number c i ≡ total (counted v i) (loops_of v)) (crossings : ℕ) (all : crossings ≡ length (edges_of v)) where
    pub whole_is : part_with 0 crossings c ≡ total_of (length (vertices v.grid (heights v))) (triangles v.grid (heights v))
    whole_is = part_is v (loops_of v) long c h 0 crossings ∙ (ap (λ n. part_by (share_outer_plane v.grid) 0 n (loops_of v)) all ∙ sym total_is)

    pub whole_few : AreFew crossings c
    whole_few = few_are v (loops_of v) long c h crossings (omega (arith, all, few_corners)) (omega (arith, few_faces))

  -- its components
  module _ (cs : List (Component LoopCounts)) (h : AreComponents number fit counted v cs) where
    abbrev class_at : ℕ → ℕ
    class_at i = get_or (classes (edges_of v) (loops_of v)) i 0

    class_long : (k : ℕ) (l : Loop) → In l (class_loops (loops_of v) k) → 3 ≤ length l.1
    class_long k l i = long l (In-filter (is_of_class (loops_of v) k) l (loops_of v) i).0

    pub parts_few : All (λ (c : Component LoopCounts). AreFew c.crossings c.tally) cs
    parts_few i d l =
        let c : Component LoopCounts = get_or cs i d in
        let k : ℕ = class_at i in
        few_are v (class_loops (loops_of v) k) (class_long k) c.tally (h.each i d l).values c.crossings
        (omega (arith, (h.each i d l).crossings, count_by-le-length (λ e. eqb (class_of (loops_of v) e) k) (edges_of v), count_fewer has_centre (is_of_class (loops_of v) k) (loops_of v), few_corners))
        (omega (arith, sum_fewer (λ (l : Loop). cond (has_centre l) (length l.1) 1) (is_of_class (loops_of v) k) (loops_of v), few_faces))

    pub parts_ascend : (i j : ℕ) (d : Component LoopCounts) → i < j → j < length cs → (get_or cs i d).least < (get_or cs j d).least
    parts_ascend i j d l m =
        let less : class_at i < class_at j
        = ascends (classes (edges_of v) (loops_of v)) i j (ascending-filter (λ e. eqb (class_of (loops_of v) e) e) (edges_of v) (ascending-edges v.grid (heights v))) l (omega (arith, m, h.count)) in
        let known : In (class_at i) (edges_of v)
        = (In-filter (λ e. eqb (class_of (loops_of v) e) e) (class_at i) (edges_of v) (in_place (classes (edges_of v) (loops_of v)) i 0 (omega (arith, l, m, h.count)))).0 in
        let rises : number_of v.grid (heights v) (class_at i) < number_of v.grid (heights v) (class_at j)
        = count_less (vertex_names v.grid (heights v)) (class_at i) (class_at j) (crossing_known v.grid (heights v) (class_at i) known) less in
        omega (arith, rises, (h.each i d (omega (arith, l, m))).least, (h.each j d m).least)

    pub parts_are : map (λ (c : Component LoopCounts). part_with c.least c.crossings c.tally) cs ≡ map (class_part (number_of v.grid (heights v)) (edges_of v) (share_outer_plane v.grid) (loops_of v)) (classes (edges_of v) (loops_of v))
    parts_are =
        same_lists _ _ (length-map cs part ∙ (h.count ∙ sym (length-map (classes (edges_of v) (loops_of v)) of_class)))
        (λ i d l.
        let inside : i < length cs = omega (arith, l, length-map cs part) in
        let c : Component LoopCounts = get_or cs i none in
        let k : ℕ = class_at i in
        get_or-map part cs i none d inside
        ∙ (part_is v (class_loops (loops_of v) k) (class_long k) c.tally (h.each i none inside).values c.least c.crossings
        ∙ (ap₂ (λ m n. part_by (share_outer_plane v.grid) m n (class_loops (loops_of v) k)) (h.each i none inside).least (h.each i none inside).crossings
        ∙ sym (get_or-map of_class (classes (edges_of v) (loops_of v)) i 0 d (omega (arith, inside, h.count))))))
      where
        part : Component LoopCounts → Part
        part c = part_with c.least c.crossings c.tally

        of_class : ℕ → Part
        of_class = class_part (number_of v.grid (heights v)) (edges_of v) (share_outer_plane v.grid) (loops_of v)

        none : Component LoopCounts
        none = record { least = 0; crossings = 0; tally = record { threes = 0; centres = 0; spokes = 0; border = 0 } }

    pub parts_told : map (λ (c : Component LoopCounts). part_with c.least c.crossings c.tally) cs
        ≡ map (part_of (length (vertices v.grid (heights v))) (triangles v.grid (heights v))) (components (length (vertices v.grid (heights v))) (triangles v.grid (heights v)))
    parts_told = parts_are ∙ sym (ap (λ (s : Summary). s.parts) (summary_is v.grid (heights v) thick))

  -- all loops, by labels
  module _ {T : Type 0} (value : T → ℕ → ℤ) (fits : ℕ → T → Type 0) (of_loop : Leveled → ℕ → Loop → ℤ) (labels : Known) (tallies : List T) (edges : Passed)
      (h : IsWhole value fits of_loop v labels tallies edges) where
    all_labelled : labelled h.walked.xs (λ a. true) ≡ loops_of v
    all_labelled = ap unlabelled (filter_all h.walked.xs) ∙ h.walked.loops_are

    size : length tallies ≡ labels.count
    size = h.walked.tallies_are.size

    tallies_add : (i : ℕ) → total (λ t. value t i) tallies ≡ total (of_loop v i) (loops_of v)
    tallies_add i =
        total_placed (λ t. value t i) (λ a. total (of_loop v i) (labelled h.walked.xs (λ b. eqb b a))) 0 tallies
        (λ a d l. h.walked.tallies_are.values a d i (omega (arith, l, size)) ∙ ap (λ n. total (of_loop v i) (labelled h.walked.xs (λ b. eqb b n))) (let e : a ≡ 0 + a = omega arith in e))
        ∙ (ap (λ n. total (λ a. total (of_loop v i) (labelled h.walked.xs (λ b. eqb b a))) (below n)) size
        ∙ (sym (loop_totals h.walked.xs labels.count h.walked.labelled_are.low (λ a. true) (of_loop v i)) ∙ ap (total (of_loop v i)) all_labelled))

    pub added_is : (ts : List T) → ts ≡ tallies → (t : T) → ((i : ℕ) → value t i ≡ total (λ u. value u i) ts) → (i : ℕ) → value t i ≡ total (of_loop v i) (loops_of v)
    added_is ts same t sums i = sums i ∙ (ap (total (λ u. value u i)) same ∙ tallies_add i)

    pub tallies_fit : (n : ℕ → ℕ) × (sum_by n (below (length tallies)) < 2147483648) × FitEach fits n tallies
    tallies_fit =
        let few = steps_few value fits of_loop v labels tallies edges h grid in
        (few.of, subst (λ n. sum_by few.of (below n) < 2147483648) (sym size) few.few, record { each = λ a d l. few.fit a d (omega (arith, l, size)) })

    pub crossings_are : edges.count ≡ length (edges_of v)
    unfolding rank
    crossings_are =
        h.walked.passed
        ∙ (ap (λ n. count_by (is_crossing v.grid (heights v)) (below n)) bound ∙ sym (length-filter (is_crossing v.grid (heights v)) (below (name_bound v.grid))))
      where
        bound : row_name v.grid (v.grid.ny * v.grid.nz) ≡ name_bound v.grid
        bound = omega arith
