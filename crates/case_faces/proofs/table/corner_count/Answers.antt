use Rattle.std.proofs.Common.{◌+◌, ◌<◌, ◌∙◌, ap, get_or, rules, arith}
use Rattle.case_faces.specs.declared.table.TheConstants.{STARTS}
use Rattle.case_faces.proofs.Tables.{count_is, row_at}
use Rattle.case_faces.proofs.table.corner_count.Goals as goal

pub overflow_sub-result : goal.overflow_sub-result
overflow_sub-result c =
    let small : c.args.row < 656 = search rules in
    let to = c.start_of.ensures.value ∙ ap (λ n. get_or STARTS (n + 1) 0) c.number-number.ensures.value in
    let from = c.start_of-2.ensures.value ∙ ap (λ n. get_or STARTS n 0) c.number-number.ensures.value in
    omega (arith, from, to, (row_at c.args.row small).order)

pub returns-clause-value : goal.returns-clause-value
returns-clause-value c =
    let small : c.args.row < 656 = search rules in
    let to = c.start_of.ensures.value ∙ ap (λ n. get_or STARTS (n + 1) 0) c.number-number.ensures.value in
    let from = c.start_of-2.ensures.value ∙ ap (λ n. get_or STARTS n 0) c.number-number.ensures.value in
    omega (arith, from, to, count_is c.args.row small)

pub returns-clause-few : goal.returns-clause-few
returns-clause-few c =
    let small : c.args.row < 656 = search rules in
    let to = c.start_of.ensures.value ∙ ap (λ n. get_or STARTS (n + 1) 0) c.number-number.ensures.value in
    let from = c.start_of-2.ensures.value ∙ ap (λ n. get_or STARTS n 0) c.number-number.ensures.value in
    omega (arith, from, to, (row_at c.args.row small).few)
