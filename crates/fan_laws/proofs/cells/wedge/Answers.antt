use Rattle.std.proofs.Common.{arith}
use Rattle.mesh_laws.proofs.Wedge.{wedge_law}
use Rattle.fan_laws.proofs.cells.wedge.Goals as goal

pub returns : goal.returns
returns c = wedge_law c.args.values c.args.edge (omega arith) c.requires.low c.requires.crossing
