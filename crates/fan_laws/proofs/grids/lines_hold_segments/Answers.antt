use Rattle.std.proofs.Common.{arith}
use Rattle.plane_laws.proofs.Once.{segments_once}
use Rattle.fan_laws.proofs.grids.lines_hold_segments.Goals as goal

pub returns : goal.returns
returns c = λ g s k a b low. segments_once g s k a b (omega arith)
