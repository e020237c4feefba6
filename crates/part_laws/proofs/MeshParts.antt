-- The loops of the mesh of a field on a grid, and what is said of them.
use Rattle.std.proofs.Common.{◌≡◌, ℕ, ◌+◌, ◌<◌, ◌≤◌, Bool, true, not, List, [], ◌∷◌, map, length, refl, sym, ◌∙◌, ap, subst, inl, inr, arith, eqb, ℤ}
use Rattle.std.specs.List.{flat_map, list_any, AllByRecursion}
use Rattle.std.proofs.lemmas.Bool.{cases_Bool, eq-eqb, ne_eqb, not_from_false}
use Rattle.std.proofs.lemmas.List.{length-map}
use Rattle.iso_defs.specs.Grid.{Grid, name_bound, is_crossing, IsThick}
use Rattle.iso_defs.specs.Lists.{below}
use Rattle.iso_defs.specs.Rows.{row_cells, row_count}
use Rattle.iso_defs.specs.Cell.{Triangle}
use Rattle.iso_defs.specs.Scratch.{crossing_edges, number_of, triangles, vertex_names, vertices}
use Rattle.iso_defs.specs.Manifold.{HasThreeCorners, times_run, uses, RunsMatch, share_outer_plane}
use Rattle.iso_defs.specs.Verdict.{in_outer_plane}
use Rattle.iso_base.specs.Triangles.{IsBelow}
use Rattle.triangle_laws.proofs.Lists.{In, in_filter, in_map}
use Rattle.mesh_laws.proofs.Numbers.{count_less}
use Rattle.mesh_laws.proofs.Oriented.{runs_match}
use Rattle.mesh_laws.proofs.Rows.{cells_by_rows}
use Rattle.mesh_laws.proofs.Sizes.{corners_low}
use Rattle.mesh_laws.proofs.Surfaces.{manifold}
use Rattle.mesh_laws.proofs.Used.{used}
use Rattle.measure_laws.specs.Vectors.{Vector}
use Rattle.mesh_report.specs.Report.{component, components, summary_of}
use Rattle.mesh_report.proofs.Reach.{below_in, in_below}
use Rattle.measure.specs.Measures.{measures_of, triangles_in}
use Rattle.part_laws.specs.Loops.{AreLong, Loop, loops_in, mesh_loops, renamed, triangles_round}
use Rattle.part_laws.specs.Classes.{class_of}
use Rattle.part_laws.specs.Parts.{class_loops, classes, loop_summary, mesh_summary}
use Rattle.part_laws.specs.Swept.{loop_measures, mesh_shares}
use Rattle.part_laws.proofs.Rounds.{flat_flat}
use Rattle.part_laws.proofs.LoopLaws.{numbered_loops, renamed_are, triangles_are}
use Rattle.part_laws.proofs.Numbered.{borders_alike, crossing_known, edge_count, edges_numbered, loops_cross, loops_long, loops_low, centres_follow, edges_first, centres_inside}
use Rattle.part_laws.proofs.Joined.{AreLoops, component_class}
use Rattle.part_laws.proofs.Renamed.{class_renamed, classes_renamed, loops_renamed, measures_renamed, summary_renamed}
use Rattle.part_laws.proofs.Summed.{components_by_loops, summary_by_loops}
use Rattle.part_laws.proofs.Measured.{triangles_by_loops, measures_by_loops}

-- a side is on the border where it is not run back
border_is : (border : ℕ → ℕ → Bool) (ts : List Triangle) → RunsMatch border ts → (a b : ℕ) → 0 < times_run ts a b → border a b ≡ eqb (times_run ts b a) 0
border_is border ts h a b l =
    let r : (border a b ≡ true → times_run ts a b + times_run ts b a ≡ 1) × (not (border a b) ≡ true → (times_run ts a b ≡ 1) × (times_run ts b a ≡ 1)) = h a b l in
    elim (cases_Bool (border a b)) [
      | inl e ↦ (let s : times_run ts a b + times_run ts b a ≡ 1 = r.0 e in e ∙ sym (eq-eqb (times_run ts b a) 0 (omega arith)))
      | inr e ↦ (let s : times_run ts b a ≡ 1 = (r.1 (not_from_false (border a b) e)).1 in e ∙ sym (ne_eqb (times_run ts b a) 0 (λ z. absurd (omega arith))))
    ]

module _ (g : Grid) (s : ℕ → ℤ) where
  pub named_long : (l : Loop) → In l (mesh_loops g s) → 3 ≤ length l.1
  named_long l i =
      let f : ℕ → ℕ = number_of g s in
      let j : In (renamed f l) (numbered_loops g s) = subst (λ ks. In (renamed f l) ks) (sym (renamed_are g s)) (in_map (renamed f) l (mesh_loops g s) i) in
      let k : 3 ≤ length (map f l.1) = loops_long g s (renamed f l) j in
      omega (arith, k, length-map l.1 f)

  pub loops_are_long : AreLong (mesh_loops g s)
  loops_are_long = go (mesh_loops g s) (λ l i. named_long l i)
    where
      go : (ls : List Loop) → ((l : Loop) → In l ls → 3 ≤ length l.1) → AreLong ls
      go [] h = tt
      go (l ∷ ls) h = (h l (inl refl), go ls (λ k i. h k (inr i)))

  -- the loops of the rows of cells, row by row
  pub loops_by_rows : mesh_loops g s ≡ flat_map (λ r. flat_map (loops_in g s) (row_cells g r)) (below (row_count g))
  loops_by_rows = ap (flat_map (loops_in g s)) (cells_by_rows g) ∙ flat_flat (loops_in g s) (row_cells g) (below (row_count g))

module _ (g : Grid) (s : ℕ → ℤ) (thick : IsThick g) where
  abbrev ls : List Loop
  ls = numbered_loops g s

  abbrev n : ℕ
  n = length (vertices g s)

  bounded : (us : List Triangle) → ((t : Triangle) → In t us → In t (triangles g s)) → AllByRecursion (IsBelow n) us
  bounded [] h = tt
  bounded (t ∷ us) h = (corners_low g s t (h t (inl refl)), bounded us (λ u i. h u (inr i)))

  pub are_loops : AreLoops (edge_count g s) n (in_outer_plane g s) ls
  are_loops =
      let e : triangles g s ≡ flat_map triangles_round ls = triangles_are g s in
      record {
        long = λ l i. loops_long g s l i;
        low = λ l v i j. loops_low g s l v i j;
        follow = centres_follow g s;
        first = edges_first g s;
        corners = subst (λ ts. AllByRecursion HasThreeCorners ts) e (manifold g s).corners;
        bounded = subst (λ ts. AllByRecursion (IsBelow n) ts) e (bounded (triangles g s) (λ t i. i));
        once = subst (λ ts. (a b : ℕ) → times_run ts a b ≤ 1) e (manifold g s).once;
        used = subst (λ ts. (v : ℕ) → v < n → list_any (uses v) ts ≡ true) e (used g s thick);
        border = subst (λ ts. (a b : ℕ) → 0 < times_run ts a b → in_outer_plane g s a b ≡ eqb (times_run ts b a) 0) e (border_is (in_outer_plane g s) (triangles g s) (runs_match g s));
        inside = λ l b i. centres_inside g s l b i;
      }

  abbrev number : ℕ → ℕ
  number = number_of g s

  abbrev edges : List ℕ
  edges = crossing_edges g s

  numbers_rise : (a b : ℕ) → In a edges → In b edges → a < b → number a < number b
  numbers_rise a b i j l = count_less (vertex_names g s) a b (crossing_known g s a i) l

  numbered_is : (e : ℕ) → e < name_bound g → is_crossing g s e ≡ true → In e edges
  numbered_is e l c = in_filter (is_crossing g s) e (below (name_bound g)) (in_below (name_bound g) e l) c

  -- the component of a crossing edge's vertex is its class
  pub component_of_edge : (e : ℕ) → e < name_bound g → is_crossing g s e ≡ true → component n (triangles g s) (number e) ≡ number (class_of (mesh_loops g s) e)
  component_of_edge e l c =
      let i : In e edges = numbered_is e l c in
      let low : number e < edge_count g s = numbers_low e i in
      ap (λ ts. component n ts (number e)) (triangles_are g s)
      ∙ (component_class (edge_count g s) n (in_outer_plane g s) ls are_loops (number e) low
      ∙ (ap (λ ks. class_of ks (number e)) (renamed_are g s) ∙ class_renamed number edges numbers_rise (mesh_loops g s) (loops_cross g s) e i))
    where
      numbers_low : (e : ℕ) → In e edges → number e < edge_count g s
      numbers_low e i = below_in (edge_count g s) (number e) (subst (λ ks. In (number e) ks) (edges_numbered g s) (in_map number e edges i))

  -- the components, ascending, are the classes by the least edges
  pub components_are_classes : components n (triangles g s) ≡ map number (classes edges (mesh_loops g s))
  components_are_classes =
      ap (components n) (triangles_are g s)
      ∙ (components_by_loops (edge_count g s) n (in_outer_plane g s) ls are_loops
      ∙ (ap (λ vs. classes vs ls) (sym (edges_numbered g s))
      ∙ (ap (classes (map number edges)) (renamed_are g s) ∙ classes_renamed number edges numbers_rise (mesh_loops g s) (loops_cross g s) (named_long g s))))

  -- the triangles of a component are those of the loops of the class
  pub triangles_of_class : (e : ℕ) → e < name_bound g → is_crossing g s e ≡ true
      → triangles_in n (triangles g s) (number e) ≡ flat_map triangles_round (map (renamed number) (class_loops (mesh_loops g s) e))
  triangles_of_class e l c =
      ap (λ ts. triangles_in n ts (number e)) (triangles_are g s)
      ∙ (triangles_by_loops (edge_count g s) n (in_outer_plane g s) ls are_loops (number e)
      ∙ ap (flat_map triangles_round)
      (ap (λ ks. class_loops ks (number e)) (renamed_are g s) ∙ loops_renamed number edges numbers_rise (mesh_loops g s) (loops_cross g s) (named_long g s) e (numbered_is e l c)))

  -- the report on the mesh is that on its loops
  pub summary_is : summary_of n (triangles g s) ≡ mesh_summary g s
  summary_is =
      ap (summary_of n) (triangles_are g s)
      ∙ (summary_by_loops (edge_count g s) n (in_outer_plane g s) ls are_loops
      ∙ (ap (λ vs. loop_summary (λ v. v) vs (in_outer_plane g s) ls) (sym (edges_numbered g s))
      ∙ (ap (loop_summary (λ v. v) (map number edges) (in_outer_plane g s)) (renamed_are g s)
      ∙ summary_renamed number edges numbers_rise (mesh_loops g s) (loops_cross g s) (named_long g s) (in_outer_plane g s) (share_outer_plane g) (borders_alike g s))))

  -- and so are the measures
  pub measures_are : (at : ℕ → Vector) → measures_of n (triangles g s) at ≡ mesh_shares g s at
  measures_are at =
      ap (λ ts. measures_of n ts at) (triangles_are g s)
      ∙ (measures_by_loops (edge_count g s) n (in_outer_plane g s) ls are_loops at
      ∙ (ap (λ vs. loop_measures (λ v. v) vs (in_outer_plane g s) ls at) (sym (edges_numbered g s))
      ∙ (ap (λ ks. loop_measures (λ v. v) (map number edges) (in_outer_plane g s) ks at) (renamed_are g s)
      ∙ measures_renamed number edges numbers_rise (mesh_loops g s) (loops_cross g s) (named_long g s) (in_outer_plane g s) (share_outer_plane g) (borders_alike g s) at)))
