-- The components that were put together are those of the classes.
use Rattle.std.proofs.Common.{◌≡◌, ℕ, ◌+◌, ◌*◌, ◌<◌, ◌≤◌, ℤ, pos, true, cond, List, map, length, get_or, sym, ◌∙◌, ap, subst, inl, inr, arith, eqb}
use Rattle.std.specs.List.{AllByRecursion, count_by, filter, sum_by}
use Rattle.std.proofs.lemmas.Bool.{cases_eq, eq-eqb, ne_eqb}
use Rattle.std.proofs.lemmas.List.{get_or-map, length-map}
use Rattle.std.proofs.lemmas.List.FromFn.{length-range_with_len}
use Rattle.std.proofs.lemmas.List.Sums.{count_by-le-length}
use Rattle.iso_base.specs.Volume.{IsGrid}
use Rattle.iso_defs.specs.Grid.{name_bound, is_crossing}
use Rattle.iso_defs.specs.Lists.{below}
use Rattle.iso_defs.specs.Scratch.{number_of}
use Rattle.crossing_edges.specs.Flags.{rank}
use Rattle.flat_mesh.specs.Lattice.{Leveled, heights}
use Rattle.flat_mesh.specs.Rows.{row_start}
use Rattle.flat_mesh.proofs.NumberOf.{number_is_rank}
use Rattle.component_labels.specs.Walks.{IsLeast}
use Rattle.component_labels.specs.Fronts.{none, row_name}
use Rattle.component_labels.specs.Labelling.{Known}
use Rattle.mesh_report.proofs.PlaceLaws.{in_place}
use Rattle.measure_laws.specs.Vectors.{total}
use Rattle.mesh_laws.proofs.Cells.{range_at_least}
use Rattle.mesh_report.proofs.Sums.{sum_agree}
use Rattle.part_laws.specs.ByLabels.{firsts}
use Rattle.part_laws.specs.Classes.{class_of}
use Rattle.part_laws.specs.Labels.{labelled, unlabelled}
use Rattle.part_laws.specs.Loops.{Loop, rims}
use Rattle.part_laws.specs.Meets.{least_joined, pair_loop}
use Rattle.part_laws.specs.Parts.{class_loops, classes}
use Rattle.part_laws.proofs.ClassLaws.{class_low}
use Rattle.part_laws.proofs.Counted.{filter_agree}
use Rattle.part_laws.proofs.Edges.{at_in}
use Rattle.part_laws.proofs.LabelSums.{edge_sums, loop_sums, loop_totals}
use Rattle.part_laws.proofs.Measured.{total_in}
use Rattle.part_laws.proofs.NamedParts.{class_in, classes_first, edges_named, loops_are_named}
use Rattle.triangle_laws.proofs.Lists.{In, In-filter}
use Rattle.triangle_laws.proofs.Counts.{count_agree}
use Rattle.component_walk.specs.Begun.{AreAdded, AreBegun, AreFew}
use Rattle.component_walk.specs.Components.{AreComponents, IsComponent, IsWhole, edges_of, loops_of}
use Rattle.component_walk.specs.Passed.{AreEdges, edges_before}
use Rattle.component_walk.specs.Walks.{loops_before}
use Rattle.component_walk.specs.declared.edges_behind.Passed.{Passed}
use Rattle.component_walk.specs.declared.components.Component.{Component}
use Rattle.component_walk.proofs.CellLaws.{few_before, filter_low}
use Rattle.component_walk.proofs.FirstLaws.{firsts_again, firsts_few}
use Rattle.component_walk.proofs.RowLaws.{all_before}
use Rattle.component_walk.proofs.WalkLaws.{firsts_inside, firsts_same, labelled_few}

-- the smallest joined label is no greater
joined_low : (ps : List (ℕ × ℕ)) (a : ℕ) → least_joined ps a ≤ a
unfolding least_joined
joined_low ps a = class_low (map pair_loop ps) a

pub joined_inside : (n : ℕ) (ps : List (ℕ × ℕ)) (joined : List ℕ) → IsLeast n ps joined → (a : ℕ) → a < n → get_or joined a 0 < n
joined_inside n ps joined h a l = omega (arith, h.each a l, joined_low ps a, l)

in_below : (n a : ℕ) → In a (below n) → a < n
in_below n a i = let r : (0 ≤ a) × (a < 0 + n) = range_at_least 0 n a i in omega (arith, r.1)

length_below : (n : ℕ) → length (below n) ≡ n
length_below n = length-range_with_len 0 n

module _ {T : Type 0} (value : T → ℕ → ℤ) (fits : ℕ → T → Type 0) (of_loop : Leveled → ℕ → Loop → ℤ) (v : Leveled) (labels : Known) (ts : List T) (edges : Passed) (h : IsWhole value fits of_loop v labels ts edges) where
  abbrev count : ℕ
  count = labels.count

  abbrev label : ℕ → ℕ
  label = h.walked.label

  abbrev xs : List (ℕ × Loop)
  xs = h.walked.xs

  abbrev es : List ℕ
  es = edges_of v

  whole_edges : edges_before v (row_name v.grid (v.grid.ny * v.grid.nz)) ≡ es
  unfolding edges_before
  whole_edges = ap (λ n. filter (is_crossing v.grid (heights v)) (below n)) (let e : row_name v.grid (v.grid.ny * v.grid.nz) ≡ name_bound v.grid = omega arith in e)

  edges_are : AreEdges label (rank v.grid (heights v)) es edges.crossings.items edges.order.items
  edges_are = subst (λ ds. AreEdges label (rank v.grid (heights v)) ds edges.crossings.items edges.order.items) whole_edges h.walked.edges_are

  pub order_is : edges.order.items ≡ map (λ e. (label e, rank v.grid (heights v) e)) (firsts label es)
  order_is = edges_are.firsts_are

  label_low : (e : ℕ) → In e es → label e < count
  label_low e i = (let l : label e < length edges.crossings.items = at_in (λ e. label e < length edges.crossings.items) es edges_are.low e i in omega (arith, l, h.walked.size))

  -- the labels in the order of their first edges
  pub order_inside : (k : ℕ) (d : ℕ × ℕ) → k < length edges.order.items → (get_or edges.order.items k d).0 < count
  order_inside k d l =
      let ds : List ℕ = firsts label es in
      let long : length edges.order.items ≡ length ds = ap length edges_are.firsts_are ∙ length-map ds (λ e. (label e, rank v.grid (heights v) e)) in
      let i : In (get_or ds k 0) es = firsts_inside label label es (get_or ds k 0) (in_place ds k 0 (omega (arith, l, long))) in
      let e : get_or edges.order.items k d ≡ (label (get_or ds k 0), rank v.grid (heights v) (get_or ds k 0))
      = ap (λ os. get_or os k d) edges_are.firsts_are ∙ get_or-map (λ e. (label e, rank v.grid (heights v) e)) ds k 0 d (omega (arith, l, long)) in
      subst (λ (o : ℕ × ℕ). o.0 < count) (sym e) (label_low (get_or ds k 0) i)

  module _ (is : IsGrid v.grid) where
    few_edges : length es ≤ 480000000
    few_edges = omega (arith, filter_low (is_crossing v.grid (heights v)) (below (name_bound v.grid)), length_below (name_bound v.grid), is.count)

    pub order_few : length edges.order.items ≤ 480000000
    order_few =
        omega (arith, ap length edges_are.firsts_are ∙ length-map (firsts label es) (λ e. (label e, rank v.grid (heights v) e)), firsts_few label es, few_edges)

    pub crossings_few : sum_by (λ a. get_or edges.crossings.items a 0) (below count) < 4294967296
    crossings_few =
        let low : AllByRecursion (λ e. label e < count) es = subst (λ n. AllByRecursion (λ e. label e < n) es) h.walked.size edges_are.low in
        let a : sum_by (λ a. get_or edges.crossings.items a 0) (below count) ≡ sum_by (λ a. count_by (λ e. eqb (label e) a) es) (below count)
        = sum_agree (λ a. get_or edges.crossings.items a 0) (λ a. count_by (λ e. eqb (label e) a) es) (below count) (λ a i. edges_are.counts a (omega (arith, in_below count a i, h.walked.size))) in
        let b : count_by (λ e. true) es ≡ sum_by (λ a. count_by (λ e. eqb (label e) a) es) (below count) = edge_sums label count (λ a. true) es low in
        omega (arith, a, b, count_by-le-length (λ e. true) es, few_edges)

    pub steps_few : AreFew fits count ts
    steps_few =
        let of : ℕ → ℕ = λ a. rims (labelled xs (λ b. eqb b a)) in
        let a : rims (labelled xs (λ a. true)) ≡ sum_by of (below count) = loop_sums xs count h.walked.labelled_are.low (λ a. true) (λ (l : Loop). length l.1) in
        let m : rims (unlabelled xs) ≡ rims (loops_before v (row_start v.grid 0 v.grid.nz)) = ap rims (h.walked.loops_are ∙ sym (all_before v)) in
        record {
          of = of;
          few = omega (arith, a, labelled_few xs (λ a. true), m, few_before v (row_start v.grid 0 v.grid.nz), is.count);
          fit = λ a t l. h.walked.tallies_are.fit a t l;
        }

    -- what is put together
    module _ (joined : List ℕ) (least : IsLeast count labels.pairs joined) (places : List ℕ) (size : length places ≡ count) (cs cs' : List (Component T))
        (begun : AreBegun value fits (λ e. get_or joined (label e) 0) (rank v.grid (heights v)) (firsts label es) places cs)
        (added : AreAdded value fits (λ a. get_or places (get_or joined a 0) 0) count edges.crossings.items ts cs cs') where
      abbrev name : ℕ → ℕ
      name e = get_or joined (label e) 0

      abbrev f : ℕ → ℕ
      f e = least_joined labels.pairs (label e)

      abbrev place : ℕ → ℕ
      place a = get_or places (get_or joined a 0) 0

      name_is : (e : ℕ) → In e es → name e ≡ f e
      name_is e i = least.each (label e) (label_low e i)

      firsts_are : firsts name (firsts label es) ≡ classes es (unlabelled xs)
      firsts_are =
          firsts_again label name (λ d e q. ap (λ a. get_or joined a 0) q) es
          ∙ (firsts_same name f es name_is ∙ sym (classes_first v.grid (heights v) h.thick xs labels.pairs label h.walked.loops_are h.walked.labelled_are.labelling))

      count_is : length cs' ≡ length (classes es (unlabelled xs))
      count_is = added.count ∙ (begun.count ∙ ap length firsts_are)

      few : length cs < none
      few = omega (arith, begun.count, firsts_few name (firsts label es), firsts_few label es, few_edges)

      -- of one component
      module _ (i : ℕ) (low : i < length cs) (k : ℕ) (k_is : get_or (classes es (unlabelled xs)) i 0 ≡ k) where
        first_is : get_or (firsts name (firsts label es)) i 0 ≡ k
        first_is = ap (λ ds. get_or ds i 0) firsts_are ∙ k_is

        known : In k es × (class_of (unlabelled xs) k ≡ k)
        known =
            class_in v.grid (heights v) h.thick xs labels.pairs label h.walked.loops_are h.walked.labelled_are.labelling k
            (subst (λ e. In e (classes es (unlabelled xs))) k_is (in_place (classes es (unlabelled xs)) i 0 (omega (arith, low, begun.count, ap length firsts_are))))

        -- the labels at its place
        test_is : (a : ℕ) → a < count → eqb (place a) i ≡ eqb (least_joined labels.pairs a) (f k)
        test_is a l =
            elim (cases_eq (place a) i) [
              | inl q ↦ (
                  let r = begun.named (get_or joined a 0) (omega (arith, size, joined_inside count labels.pairs joined least a l)) (λ z. absurd (omega (arith, z, q, few, low))) in
                  let e : name k ≡ get_or joined a 0 = ap name (sym (ap (λ j. get_or (firsts name (firsts label es)) j 0) q ∙ first_is)) ∙ r.1 in
                  eq-eqb (place a) i q ∙ sym (eq-eqb (least_joined labels.pairs a) (f k) (sym (least.each a l) ∙ (sym e ∙ name_is k known.0))))
              | inr d ↦ ne_eqb (place a) i d
                  ∙ sym (ne_eqb (least_joined labels.pairs a) (f k) (λ q. d (ap (λ b. get_or places b 0) (least.each a l ∙ (q ∙ sym (name_is k known.0))) ∙ (ap (λ e. get_or places (name e) 0) (sym first_is) ∙ begun.place i low))))
            ]

        loops_at : labelled xs (λ a. eqb (place a) i) ≡ class_loops (unlabelled xs) k
        loops_at =
            ap (map (λ (x : ℕ × Loop). x.1))
            (filter_agree (λ (x : ℕ × Loop). eqb (place x.0) i) (λ (x : ℕ × Loop). eqb (least_joined labels.pairs x.0) (f k)) xs
            (λ x j. test_is x.0 (at_in (λ (x : ℕ × Loop). x.0 < count) xs h.walked.labelled_are.low x j)))
            ∙ sym (loops_are_named v.grid (heights v) h.thick xs labels.pairs label h.walked.loops_are h.walked.labelled_are.labelling k known.0 known.1)

        crossings_at : sum_by (λ a. cond (eqb (place a) i) (get_or edges.crossings.items a 0) 0) (below count) ≡ count_by (λ e. eqb (class_of (unlabelled xs) e) k) es
        crossings_at =
            let low : AllByRecursion (λ e. label e < count) es = subst (λ n. AllByRecursion (λ e. label e < n) es) h.walked.size edges_are.low in
            sum_agree (λ a. cond (eqb (place a) i) (get_or edges.crossings.items a 0) 0) (λ a. cond (eqb (place a) i) (count_by (λ e. eqb (label e) a) es) 0) (below count)
            (λ a j. ap (λ n. cond (eqb (place a) i) n 0) (edges_are.counts a (omega (arith, in_below count a j, h.walked.size))))
            ∙ (sym (edge_sums label count (λ a. eqb (place a) i) es low)
            ∙ (count_agree (λ e. eqb (place (label e)) i) (λ e. eqb (f e) (f k)) es (λ e j. test_is (label e) (label_low e j))
            ∙ sym (edges_named v.grid (heights v) h.thick xs labels.pairs label h.walked.loops_are h.walked.labelled_are.labelling k known.0 known.1)))

        values_at : (t : T) (j : ℕ) → total (λ a. cond (eqb (place a) i) (value (get_or ts a t) j) (pos 0)) (below count) ≡ total (of_loop v j) (class_loops (unlabelled xs) k)
        values_at t j =
            total_in (λ a. cond (eqb (place a) i) (value (get_or ts a t) j) (pos 0)) (λ a. cond (eqb (place a) i) (total (of_loop v j) (labelled xs (λ b. eqb b a))) (pos 0)) (below count)
            (λ a l. ap (λ z. cond (eqb (place a) i) z (pos 0)) (h.walked.tallies_are.values a t j (in_below count a l)))
            ∙ (sym (loop_totals xs count h.walked.labelled_are.low (λ a. eqb (place a) i) (of_loop v j)) ∙ ap (total (of_loop v j)) loops_at)

        steps_at : sum_by (λ a. cond (eqb (place a) i) (rims (labelled xs (λ b. eqb b a))) 0) (below count) ≡ rims (class_loops (unlabelled xs) k)
        steps_at = sym (loop_sums xs count h.walked.labelled_are.low (λ a. eqb (place a) i) (λ (l : Loop). length l.1)) ∙ ap rims loops_at

        number_at : rank v.grid (heights v) k ≡ number_of v.grid (heights v) k
        number_at = sym (number_is_rank v.grid (heights v) k (in_below (name_bound v.grid) k (In-filter (is_crossing v.grid (heights v)) k (below (name_bound v.grid)) known.0).0))

        component_at : (d : Component T) → IsComponent value fits of_loop v k (get_or cs' i d)
        component_at d = record {
          least = added.least i d low ∙ (begun.least i d low ∙ (ap (rank v.grid (heights v)) first_is ∙ number_at));
          crossings = added.crossings_are i d low ∙ (crossings_at ∙ ap (λ ls. count_by (λ e. eqb (class_of ls e) k) es) h.walked.loops_are);
          values = λ j. added.values i d (get_or cs' i d).tally j low ∙ (values_at (get_or cs' i d).tally j ∙ ap (λ ls. total (of_loop v j) (class_loops ls k)) h.walked.loops_are);
          fit = subst (λ n. fits n (get_or cs' i d).tally) (steps_at ∙ ap (λ ls. rims (class_loops ls k)) h.walked.loops_are)
              (added.fit (λ a. rims (labelled xs (λ b. eqb b a))) (λ a t l. h.walked.tallies_are.fit a t l) i d low);
        }

      pub components_are : AreComponents value fits of_loop v cs'
      components_are = record {
        count = count_is ∙ ap (λ ls. length (classes es ls)) h.walked.loops_are;
        each = λ i d l. component_at i (omega (arith, l, added.count)) (get_or (classes es (loops_of v)) i 0) (ap (λ ls. get_or (classes es ls) i 0) h.walked.loops_are) d;
      }
