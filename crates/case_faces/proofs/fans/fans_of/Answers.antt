use Rattle.std.proofs.Common.{◌∙◌, ◌<◌, ℕ, zero, suc, [], ◌∷◌, ap, ap₂, arith, get_or, length, map, take, rules}
use Rattle.cell_loops.specs.Loops.{row_centres}
use Rattle.case_faces.specs.Fans.{fan_numbers}
use Rattle.case_faces.specs.declared.fans.TheConstants.{FIRST, SECOND}
use Rattle.case_faces.proofs.FanTables.{fans_at}
use Rattle.case_faces.proofs.fans.fans_of.Goals as goal

pub returns-clause-value : goal.returns-clause-value
returns-clause-value c =
    let small : c.args.row < 656 = search rules in
    let first = c.first_of.ensures.value ∙ ap (λ n. get_or FIRST n 0) c.number-case.ensures.value in
    let second = c.second_of.ensures.value ∙ ap (λ n. get_or SECOND n 0) c.number-case.ensures.value in
    ap₂ (λ (a b : ℕ). map fan_numbers (take (length (row_centres c.args.row)) (a ∷ b ∷ []))) first second ∙ (fans_at c.args.row small).value

pub returns-clause-few : goal.returns-clause-few
returns-clause-few c =
    let small : c.args.row < 656 = search rules in
    (fans_at c.args.row small).few

pub returns-clause-low : goal.returns-clause-low
returns-clause-low c zero d low = c.first_of.ensures.bound
returns-clause-low c (suc zero) d low = c.second_of.ensures.bound
returns-clause-low c (suc (suc k)) d low = absurd (omega arith)
