use Rattle.case_table.proofs.Table.{rows_bound}
use Rattle.case_table.proofs.rows.packed_row.Goals as goal

pub returns-clause-bound : goal.returns-clause-bound
returns-clause-bound c = rows_bound c.args.number
