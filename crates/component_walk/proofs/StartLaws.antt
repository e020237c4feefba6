-- Before the walk no loop has a label.
use Rattle.std.proofs.Common.{◌≡◌, ℕ, ◌*◌, ◌%◌, ◌<◌, ℤ, List, [], length, get_or, refl, sym, ◌∙◌, ap, subst, arith}
use Rattle.std.proofs.lemmas.Bool.{false≢true}
use Rattle.std.proofs.Math.Nat.{mod-lt}
use Rattle.crossing_edges.specs.Flags.{rank}
use Rattle.flat_mesh.specs.Lattice.{Leveled, heights}
use Rattle.component_labels.specs.Chains.{ArePaired}
use Rattle.component_labels.specs.Fronts.{none, room, row_name}
use Rattle.component_labels.specs.Labelling.{Known}
use Rattle.part_laws.specs.Loops.{Loop}
use Rattle.part_laws.specs.Meets.{IsLabelling}
use Rattle.part_laws.proofs.LabelLaws.{none_labelled}
use Rattle.component_walk.specs.declared.edges_behind.Passed.{Passed}
use Rattle.component_walk.specs.Passed.{AreEdges, edges_before}
use Rattle.component_walk.specs.Walks.{IsWalked, loops_before}

no_pairs : (n : ℕ) (ps : List (ℕ × ℕ)) → ps ≡ [] → ArePaired n ps
no_pairs n ps e = subst (ArePaired n) (sym e) record {
  begins = λ i l. absurd (omega arith);
  ends = λ i l. absurd (omega arith);
  back = λ i l. absurd (omega arith);
}

module _ (v : Leveled) where
  no_edges : edges_before v 0 ≡ []
  unfolding edges_before
  no_edges = refl

  no_rank : 0 ≡ rank v.grid (heights v) 0
  unfolding rank
  no_rank = refl

  no_loops : [] ≡ loops_before v 0
  unfolding loops_before
  no_loops = refl

  pub walked_none : {T : Type 0} (value : T → ℕ → ℤ) (fits : ℕ → T → Type 0) (of_loop : Leveled → ℕ → Loop → ℤ) (labels : Known) (ts : List T) (edges : Passed)
      → labels.marks.grid ≡ v.grid → ((k : ℕ) → k < room v.grid → get_or labels.marks.labels k 0 ≡ none) → labels.count ≡ 0 → labels.pairs ≡ [] → ts ≡ [] → edges.crossings.items ≡ [] → edges.order.items ≡ [] → edges.count ≡ 0
      → IsWalked value fits of_loop v 0 (loops_before v 0) labels ts edges
  walked_none value fits of_loop labels ts edges grid free count pairs no_ts no_crossings no_order passed =
      let label : ℕ → ℕ = λ e. none in
      let at : row_name v.grid 0 ≡ 0 = (let e : 3 * (v.grid.nx * 0) ≡ 0 = omega arith in e) in
      record {
        xs = [];
        label = label;
        loops_are = no_loops;
        labelled_are = record {
          grid = grid;
          standing = record { each = λ m l b. free (m % room v.grid) (mod-lt m {m = room v.grid} (omega (arith, b, at))) };
          met = λ w m. absurd (false≢true m);
          unmet = λ w m. refl;
          few = omega (arith, count);
          low = tt;
          paired = no_pairs labels.count labels.pairs pairs;
          labelling = subst (λ ps. IsLabelling [] ps label) (sym pairs) (none_labelled label);
        };
        size = ap (λ (l : List ℕ). length l) no_crossings ∙ sym count;
        tallies_are = record {
          size = ap length no_ts ∙ sym count;
          values = λ a d i l. absurd (omega (arith, l, count));
          fit = λ a d l. absurd (omega (arith, l, count));
        };
        edges_are = subst (λ es. AreEdges label (rank v.grid (heights v)) es edges.crossings.items edges.order.items) (sym (ap (edges_before v) at ∙ no_edges)) record {
          counts = λ a l. absurd (let e : length edges.crossings.items ≡ 0 = ap (λ (l : List ℕ). length l) no_crossings in omega (arith, e, l));
          firsts_are = no_order;
          low = tt;
        };
        passed = passed ∙ (no_rank ∙ ap (rank v.grid (heights v)) (sym at));
      }
