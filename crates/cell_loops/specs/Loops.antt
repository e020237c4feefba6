-- The loops of a case by its number.
use Rattle.std.specs.Prelude.{ℕ, ◌<◌, ◌≤◌, List, length}
use Rattle.std.specs.List.{All, enumerate_from, filter}
use Rattle.iso_defs.specs.Cell.{Triangle, case_loops, case_triangles}
use Rattle.iso_defs.specs.Scratch.{has_centre}
use Rattle.case_table.specs.Cases.{case_joined, case_signs}

-- a loop has three to twelve edges of the cell
pub record IsLoop (edges : List ℕ) : Type 0 where
  pub least : 3 ≤ length edges
  pub most : length edges ≤ 12
  pub low : All (λ e. e < 12) edges

-- the loops of the case of a number
unfoldable pub row_loops : ℕ → List (List ℕ)
row_loops n = case_loops (case_signs n) (case_joined n)

-- their triangles
unfoldable pub row_triangles : ℕ → List Triangle
row_triangles n = case_triangles (case_signs n) (case_joined n)

-- and those of them that have a centre, each with its number
unfoldable pub row_centres : ℕ → List (ℕ × List ℕ)
row_centres n = filter has_centre (enumerate_from 0 (case_loops (case_signs n) (case_joined n)))
