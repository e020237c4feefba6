use Rattle.std.proofs.Common.{sym}
use Rattle.case_table.proofs.Numbering.{length_cases}
use Rattle.case_table.proofs.case.CaseRow.count.Goals as goal

pub returns-clause-listed : goal.returns-clause-listed
returns-clause-listed c = sym length_cases
