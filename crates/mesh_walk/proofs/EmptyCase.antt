-- The case of most cells.
use Rattle.std.proofs.Common.{◌≡◌, ℕ, [], refl, ◌∙◌, ap}
use Rattle.case_table.specs.Cases.{case_at, cases}
use Rattle.cell_loops.specs.Loops.{row_loops}

first_empty : row_loops 0 ≡ []
unfolding row_loops case_at cases
first_empty = refl

-- it has no loops
pub no_loops : (case : ℕ) → case ≡ 0 → row_loops case ≡ []
no_loops case e = ap row_loops e ∙ first_empty
