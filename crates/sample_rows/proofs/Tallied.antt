-- What is counted of the rows of points, one row more.
use Rattle.std.proofs.Common.{◌≡◌, ℕ, ℤ, zero, suc, ◌+◌, ◌*◌, ◌<◌, ◌≤◌, List, length, sym, ◌∙◌, ap, subst, arith, add-zero}
use Rattle.std.specs.List.{sum_by}
use Rattle.iso_defs.specs.Grid.{Grid}
use Rattle.crossing_edges.specs.Flags.{edges_in, flags_at, flags_from, rank}
use Rattle.crossing_edges.proofs.Counting.{rank_next, rank_none, rank_of_row}
use Rattle.flat_mesh.specs.Lattice.{Leveled, heights}
use Rattle.flat_mesh.specs.Rows.{row_start}
use Rattle.mesh_rows.specs.Counts.{AreCounts}
use Rattle.mesh_rows.specs.Rows.{AreFlags, IsStill}
use Rattle.mesh_rows.proofs.FlagEdges.{flags_list}
use Rattle.sample_rows.specs.declared.slice_counts.SliceCounts.{SliceCounts}
use Rattle.sample_rows.specs.Cases.{HasNoLoops}
use Rattle.sample_rows.specs.Counted.{AreRowCounts}
use Rattle.sample_rows.proofs.Counted.{none_counted, quiet_counted}

-- the crossing edges before the next row, by the flags of a row
pub edges_of_row : (v : Leveled) (y z : ℕ) (flags : List ℕ) → length flags ≡ v.grid.nx → AreFlags v y z flags
    → rank v.grid (heights v) (3 * row_start v.grid (y + 1) z) ≡ rank v.grid (heights v) (3 * row_start v.grid y z) + sum_by edges_in flags
edges_of_row v y z flags count are =
    let next : 3 * row_start v.grid (y + 1) z ≡ 3 * (v.grid.nx * (y + v.grid.ny * z + 1)) = omega arith in
    let listed : sum_by edges_in (flags_from v.grid (heights v) (row_start v.grid y z) v.grid.nx) ≡ sum_by edges_in flags
    = ap (sum_by edges_in) (sym (flags_list v y z flags count are)) in
    ap (rank v.grid (heights v)) next ∙ (rank_of_row v.grid (heights v) (y + v.grid.ny * z)
    ∙ ap (λ n. rank v.grid (heights v) (3 * row_start v.grid y z) + n) listed)

module _ (v : Leveled) (y z : ℕ) (old new : SliceCounts) (edges : ℕ)
    (more : rank v.grid (heights v) (3 * row_start v.grid (y + 1) z) ≡ rank v.grid (heights v) (3 * row_start v.grid y z) + edges)
    (few : edges ≤ 3 * v.grid.nx) (before : AreRowCounts v (y + v.grid.ny * z) old) where
  pub row_counted : new.edges ≡ old.edges + edges → AreCounts v (row_start v.grid (y + 1) z) new.cells → AreRowCounts v (y + v.grid.ny * z + 1) new
  row_counted added cells =
      let next : row_start v.grid (y + 1) z ≡ v.grid.nx * (y + v.grid.ny * z + 1) = omega arith in
      record {
        edges = added ∙ (ap (λ n. n + edges) before.edges ∙ (sym more ∙ ap (λ q. rank v.grid (heights v) (3 * q)) next));
        few_edges = omega (arith, added, few, before.few_edges);
        cells = subst (λ q. AreCounts v q new.cells) next cells;
      }

-- at points without flags no crossing edge begins
rank_stays : (g : Grid) (s : ℕ → ℤ) (a n : ℕ) → ((i : ℕ) → i < n → flags_at g s (a + i) ≡ 0) → (i : ℕ) → i ≤ n → rank g s (3 * (a + i)) ≡ rank g s (3 * a)
rank_stays g s a n none zero h = ap (λ m. rank g s (3 * m)) (add-zero a)
rank_stays g s a n none (suc i) h =
    let next : a + suc i ≡ a + i + 1 = omega arith in
    ap (λ m. rank g s (3 * m)) next ∙ (rank_next g s (a + i) ∙ (ap (λ f. rank g s (3 * (a + i)) + edges_in f) (none i (omega arith))
    ∙ (add-zero (rank g s (3 * (a + i))) ∙ rank_stays g s a n none i (omega arith))))

-- a row without crossing edges and loops adds nothing
pub still_counted : (v : Leveled) (y z : ℕ) (counts : SliceCounts) → y < v.grid.ny → z < v.grid.nz → IsStill v y z → HasNoLoops v y z
    → AreRowCounts v (y + v.grid.ny * z) counts → AreRowCounts v (y + v.grid.ny * z + 1) counts
still_counted v y z counts hy hz still quiet before =
    let next : 3 * row_start v.grid (y + 1) z ≡ 3 * (row_start v.grid y z + v.grid.nx) = omega arith in
    let none : rank v.grid (heights v) (3 * row_start v.grid (y + 1) z) ≡ rank v.grid (heights v) (3 * row_start v.grid y z) + 0
    = ap (rank v.grid (heights v)) next ∙ (rank_stays v.grid (heights v) (row_start v.grid y z) v.grid.nx still.none v.grid.nx (omega arith)
    ∙ sym (add-zero (rank v.grid (heights v) (3 * row_start v.grid y z)))) in
    row_counted v y z counts counts 0 none (omega arith) before (sym (add-zero counts.edges)) (quiet_counted v y z counts.cells quiet hy hz before.cells)

-- nothing of no rows
pub none_tallied : (v : Leveled) (counts : SliceCounts) → counts.edges ≡ 0 → counts.cells.centres ≡ 0 → counts.cells.faces ≡ 0 → AreRowCounts v 0 counts
none_tallied v counts edges centres faces =
    let none : 0 ≡ v.grid.nx * 0 = omega arith in
    record {
      edges = edges ∙ (sym (rank_none v.grid (heights v)) ∙ ap (λ q. rank v.grid (heights v) (3 * q)) none);
      few_edges = omega arith;
      cells = subst (λ q. AreCounts v q counts.cells) none (none_counted v counts.cells centres faces);
    }
