use Rattle.std.proofs.Common.{◌*◌, ◌<◌, ◌∙◌, ap, get_or, sym, rules, arith}
use Rattle.case_faces.specs.declared.table.TheConstants.{STARTS}
use Rattle.case_faces.proofs.Tables.{before_are}
use Rattle.case_faces.proofs.table.corners_before.Goals as goal

pub returns : goal.returns
returns c =
    let small : c.args.row < 656 = search rules in
    record { value = ap (λ n. 3 * n) (c.start_of.ensures.value ∙ ap (λ n. get_or STARTS n 0) c.number.ensures.value) ∙ sym (before_are c.args.row (omega (arith, small))) }
