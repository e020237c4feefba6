-- The crossing edges and the active cells of a row, listed.
use Rattle.std.proofs.Common.{◌≡◌, ℕ, zero, suc, ◌+◌, ◌-◌, ◌*◌, ◌<◌, List, [], ◌++◌, take, map, length, get_or, ℤ, sym, subst, ◌∙◌, ap, ap₂, arith}
use Rattle.std.proofs.Math.Seq.{take-append_seam}
use Rattle.std.proofs.lemmas.List.{get_or_append_left}
use Rattle.iso_defs.specs.Grid.{Grid, index}
use Rattle.crossing_edges.specs.Flags.{flags_at, names_in}
use Rattle.crossing_edges.proofs.Counting.{names_empty, names_next, names_none}
use Rattle.flat_mesh.specs.Lattice.{Leveled, heights}
use Rattle.flat_mesh.specs.Rows.{row_start}
use Rattle.mesh_rows.specs.Rows.{AreActive, AreCases, AreEdges, IsCaseOf, IsStill}
use Rattle.row_bits.specs.Active.{active_among}

-- where no edge begins
names_still : (g : Grid) (s : ℕ → ℤ) (a n : ℕ) → ((x : ℕ) → x < n → flags_at g s (a + x) ≡ 0) → names_in g s (3 * a) (3 * n) ≡ []
names_still g s a zero none = let e : 3 * 0 ≡ 0 = omega arith in ap (names_in g s (3 * a)) e ∙ names_empty g s (3 * a)
names_still g s a (suc n) none =
    let e : suc n ≡ n + 1 = omega arith in
    ap (λ n. names_in g s (3 * a) (3 * n)) e
    ∙ (names_next g s a n ∙ ap₂ (λ k l. k ++ l) (names_still g s a n (λ x low. none x (omega arith))) (names_none g s (a + n) (none n (omega arith))))

pub still_edges : (v : Leveled) (y z : ℕ) (edges : List ℕ) → IsStill v y z → edges ≡ [] → AreEdges v y z edges
still_edges v y z edges still none = record {
  names = ap (map (λ e. 3 * row_start v.grid y z + e)) none ∙ sym (names_still v.grid (heights v) (row_start v.grid y z) v.grid.nx still.none);
}

-- the cases of a row stand at the front of a buffer
pub front_cases : (v : Leveled) (y z : ℕ) (front rest : List ℕ) → length front ≡ v.grid.nx → AreCases v y z front → AreCases v y z (front ++ rest)
front_cases v y z front rest count are x within low =
    subst (λ c. IsCaseOf v (index v.grid x y z) c) (sym (get_or_append_left front rest 0 x (omega arith))) (are x within low)

-- what is written at the front of a buffer
pub take_front : (front rest : List ℕ) (n : ℕ) → n ≡ length front → take n (front ++ rest) ≡ front
take_front front rest n same = ap (λ n. take n (front ++ rest)) same ∙ take-append_seam front rest

-- the active cells of a row, by the cases in a buffer
pub cells_active : (v : Leveled) (y z n : ℕ) (all places cases : List ℕ) → n ≡ v.grid.nx → AreCases v y z all → places ≡ active_among all 0 (n - 1)
    → cases ≡ map (λ x. get_or all x 0) places → AreActive v y z places cases
cells_active v y z n all places cases width are listed gathered = record {
  all = all;
  all_are = are;
  places_are = listed ∙ ap (λ n. active_among all 0 (n - 1)) width;
  cases_are = gathered;
}
