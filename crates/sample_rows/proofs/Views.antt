-- What the numbers of the points of a row tell of it.
use Rattle.std.proofs.Common.{◌≡◌, ℕ, ◌+◌, ◌-◌, ◌%◌, ◌<◌, ◌≤◌, List, length, map, get_or, sym, ap, subst, ◌∙◌, arith}
use Rattle.std.proofs.lemmas.List.{get_or-map}
use Rattle.iso_defs.specs.Grid.{index}
use Rattle.row_bits.specs.Active.{active_among}
use Rattle.row_bits.specs.Edges.{edges_among}
use Rattle.flat_mesh.specs.Lattice.{IsLeveled, Leveled}
use Rattle.mesh_rows.specs.Rows.{AreActive, AreCases, AreEdges, AreFlags, IsCaseOf}
use Rattle.mesh_rows.proofs.FlagEdges.{edges_are}
use Rattle.sample_rows.specs.Parts.{AreNumbers}
use Rattle.sample_rows.specs.Lists.{cases_of, flags_of}
use Rattle.sample_rows.proofs.Listed.{case_here}

module _ (v : Leveled) (y z : ℕ) (row : List ℕ) (is : IsLeveled v) (are : AreNumbers v y z row) where
  flags_are : AreFlags v y z (flags_of row)
  flags_are x low = get_or-map (λ n. n % 8) row x 0 0 (omega (arith, are.count, low)) ∙ (are.each x low).flags

  pub whole_edges : (edges : List ℕ) → edges ≡ edges_among (flags_of row) 0 (length row) → AreEdges v y z edges
  whole_edges edges same = edges_are v y z (flags_of row) edges flags_are (same ∙ ap (edges_among (flags_of row) 0) are.count)

  cases_are : y + 1 < v.grid.ny → z + 1 < v.grid.nz → AreCases v y z (cases_of row)
  cases_are hy hz x inner low = subst (IsCaseOf v (index v.grid x y z)) (sym (case_here row x (omega (arith, are.count, low)))) ((are.each x low).cell inner hy hz)

  pub whole_active : (places cases : List ℕ) → y + 1 < v.grid.ny → z + 1 < v.grid.nz → places ≡ active_among (cases_of row) 0 (length row - 1)
      → cases ≡ map (λ x. get_or (cases_of row) x 0) places → AreActive v y z places cases
  whole_active places cases hy hz listed same = record {
    all = cases_of row;
    all_are = cases_are hy hz;
    places_are = listed ∙ ap (λ n. active_among (cases_of row) 0 (n - 1)) are.count;
    cases_are = same;
  }

  pub row_some : 0 < length row
  row_some = omega (arith, are.count, is.grid.x.least)

  pub row_short : length row ≤ 1026
  row_short = omega (arith, are.count, is.grid.x.most)
