use Rattle.std.proofs.Common.{arith}
use Rattle.mesh_laws.proofs.Local.{cell_successor}
use Rattle.fan_laws.proofs.cells.cell_successor_is_permutation.Goals as goal

pub returns : goal.returns
returns c = cell_successor c.args.values (omega arith)
