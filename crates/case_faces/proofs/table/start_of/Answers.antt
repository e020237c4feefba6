use Rattle.case_faces.proofs.Tables.{start_bound}
use Rattle.case_faces.proofs.table.start_of.Goals as goal

pub returns-clause-bound : goal.returns-clause-bound
returns-clause-bound c = start_bound c.args.case
