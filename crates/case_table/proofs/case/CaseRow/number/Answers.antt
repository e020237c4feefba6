use Rattle.std.proofs.Common.{◌∙◌, ◌<◌, sym, rules}
use Rattle.case_table.proofs.Numbering.{number_back}
use Rattle.case_table.proofs.case.CaseRow.number.Goals as goal

pub returns-clause-case : goal.returns-clause-case
returns-clause-case c =
    let small : c.args.self < 656 = search rules in
    number_back c.args.self small ∙ sym c.self.view_is
