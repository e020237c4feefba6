-- From a case's number to the definitions at its signs and joined faces.
use Rattle.std.proofs.Common.{◌≡◌, ℕ, ◌<◌, ◌≤◌, Bool, ℤ, List, length, ap, subst}
use Rattle.std.specs.List.{All, enumerate_from, filter}
use Rattle.iso_defs.specs.Cell.{case_loops, case_triangles, joined_of, signs_of}
use Rattle.iso_defs.specs.Scratch.{has_centre}
use Rattle.iso_defs.specs.Bricks.{case_number}
use Rattle.case_table.specs.Cases.{case_at}
use Rattle.case_table.proofs.Numbering.{IsCase, case_back, values_case}
use Rattle.cell_loops.specs.Loops.{IsLoop, row_centres, row_loops, row_triangles}
use Rattle.cell_loops.proofs.Counted.{all_loops, few_loops}

-- a case, as the number's table gives it
abbrev pub IsAt : ℕ → List Bool → List Bool → Type 0
IsAt n signs joined = ◌≡◌ {A = List Bool × List Bool} (case_at n) (signs, joined)

module _ (n : ℕ) (signs joined : List Bool) (at : IsAt n signs joined) where
  -- its loops
  pub loops_at : row_loops n ≡ case_loops signs joined
  unfolding row_loops
  loops_at = ap (λ (c : List Bool × List Bool). case_loops c.0 c.1) at

  -- its triangles
  pub triangles_at : row_triangles n ≡ case_triangles signs joined
  unfolding row_triangles
  triangles_at = ap (λ (c : List Bool × List Bool). case_triangles c.0 c.1) at

  -- its loops that have a centre
  pub centres_at : row_centres n ≡ filter has_centre (enumerate_from 0 (case_loops signs joined))
  unfolding row_centres
  centres_at = ap (λ (c : List Bool × List Bool). filter has_centre (enumerate_from 0 (case_loops c.0 c.1))) at

-- what the loops of every case are
pub record AreLoops (loops : List (List ℕ)) : Type 0 where
  pub each : All IsLoop loops
  pub few : length loops ≤ 4

pub case_are_loops : (signs joined : List Bool) → IsCase signs joined → AreLoops (case_loops signs joined)
case_are_loops signs joined c =
    let back : (case_number signs joined < 656) × IsAt (case_number signs joined) signs joined = case_back signs joined c in
    let same : row_loops (case_number signs joined) ≡ case_loops signs joined = loops_at (case_number signs joined) signs joined back.1 in
    subst AreLoops same (record { each = all_loops (case_number signs joined) back.0; few = few_loops (case_number signs joined) back.0 })

-- and those of eight values
pub values_are_loops : (values : List ℤ) → length values ≡ 8 → AreLoops (case_loops (signs_of values) (joined_of values))
values_are_loops values eight = case_are_loops (signs_of values) (joined_of values) (values_case values eight)
