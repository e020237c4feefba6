use Rattle.cell_loops.proofs.Shapes.{start_bound}
use Rattle.cell_loops.proofs.table.start_of.Goals as goal

pub returns-clause-bound : goal.returns-clause-bound
returns-clause-bound c = start_bound c.args.number
