use Rattle.std.proofs.Common.{◌*◌, take}
use Rattle.row_bits.proofs.EdgeLists.{among_zeros, nothing_put}
use Rattle.row_bits.proofs.edges.fill_block.Goals as goal

pub returns-then-is_still-clause-put : goal.returns-then-is_still-clause-put
returns-then-is_still-clause-put c =
    nothing_put (take c.args.at c.args.edges.now) _ (among_zeros c.args.flags.now (32 * c.args.block) 32 (c.is_still.ensures c.if-is_still.true))
