use Rattle.std.proofs.Common.{take}
use Rattle.row_bits.proofs.EdgeLists.{put_three}
use Rattle.row_bits.proofs.edges.fill_point.Goals as goal

pub returns-clause-put : goal.returns-clause-put
returns-clause-put c =
    put_three (take c.args.at c.args.edges.now) _ _ _ _ _ _ c.set_edge-first.ensures.put c.set_edge-second.ensures.put c.set_edge.ensures.put
