use Rattle.cell_loops.proofs.Shapes.{first_bound}
use Rattle.cell_loops.proofs.table.first_loop.Goals as goal

pub returns-clause-bound : goal.returns-clause-bound
returns-clause-bound c = first_bound c.args.case
