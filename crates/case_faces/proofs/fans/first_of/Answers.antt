use Rattle.std.proofs.Common.{arith}
use Rattle.case_faces.proofs.FanTables.{first_bound}
use Rattle.case_faces.proofs.fans.first_of.Goals as goal

pub returns-clause-bound : goal.returns-clause-bound
returns-clause-bound c = omega (arith, first_bound c.args.case)
