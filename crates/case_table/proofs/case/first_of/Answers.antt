use Rattle.case_table.proofs.Numbering.{first_bound}
use Rattle.case_table.proofs.case.first_of.Goals as goal

pub returns-clause-bound : goal.returns-clause-bound
returns-clause-bound c = first_bound c.args.signs
