use Rattle.std.proofs.Common.{arith}
use Rattle.case_faces.proofs.FanTables.{second_bound}
use Rattle.case_faces.proofs.fans.second_of.Goals as goal

pub returns-clause-bound : goal.returns-clause-bound
returns-clause-bound c = omega (arith, second_bound c.args.case)
