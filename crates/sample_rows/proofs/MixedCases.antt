-- A cell whose corners are not all alike has loops, so its case has another number than 0.
use Rattle.std.proofs.Common.{◌≡◌, ◌≢◌, ℕ, ◌<◌, ◌∙◌, Bool, true, false, ◌||◌, List, [], ◌∷◌, eqb, refl, sym, ap}
use Rattle.iso_defs.specs.Bricks.{bits_of, number_of_bits}
use Rattle.iso_defs.specs.Cell.{case_loops, cell_signs}
use Rattle.case_laws.proofs.Cases.{all_cases}
use Rattle.case_laws.proofs.Tests.{cell_passes}
use Rattle.corner_signs.proofs.Bits.{number_of_byte}
use Rattle.cell_loops.specs.Loops.{row_loops}
use Rattle.flat_mesh.specs.Cases.{signs_at}
use Rattle.flat_mesh.specs.Faces.{loops_at}
use Rattle.flat_mesh.specs.Lattice.{Leveled, heights}
use Rattle.mesh_rows.specs.Rows.{IsCaseOf}
use Rattle.row_bits.proofs.MixedBytes.{mixed}
use Rattle.sample_rows.proofs.QuietCases.{no_loops}

abbrev has_some : List (List ℕ) → Bool
has_some [] = false
has_some (l ∷ ls) = true

-- a case whose corners are not all alike has a loop
abbrev loop_test : List Bool → List Bool → Bool
loop_test signs joined = eqb (mixed (number_of_bits signs)) 0 || has_some (case_loops signs joined)

loop_all : all_cases loop_test ≡ true
loop_all = refl

-- by the sign byte of a cell
pub mixed_loops : (v : Leveled) (q byte : ℕ) → byte < 256 → bits_of 8 byte ≡ signs_at v q → mixed byte ≡ 1 → loops_at v q ≢ []
unfolding signs_at loops_at
mixed_loops v q byte small same one none =
    let number : number_of_bits (cell_signs v.grid (heights v) q) ≡ byte = ap number_of_bits (sym same) ∙ number_of_byte byte small in
    let quiet : eqb (mixed (number_of_bits (cell_signs v.grid (heights v) q))) 0 ≡ false = ap (λ n. eqb (mixed n) 0) number ∙ ap (λ n. eqb n 0) one in
    let test = cell_passes loop_test loop_all v.grid (heights v) q in
    by _ _ quiet (ap has_some none) test
  where
    by : (a b : Bool) → a ≡ false → b ≡ false → (a || b) ≡ true → ⊥
    by true b e f h = absurd (cc)
    by false true e f h = absurd (cc)
    by false false e f h = absurd (cc)

-- so its case is not the first one
pub mixed_case : (v : Leveled) (q byte case : ℕ) → byte < 256 → bits_of 8 byte ≡ signs_at v q → mixed byte ≡ 1 → IsCaseOf v q case → case ≢ 0
mixed_case v q byte case small same one is e = mixed_loops v q byte small same one (sym is.loops ∙ (ap row_loops e ∙ no_loops))
