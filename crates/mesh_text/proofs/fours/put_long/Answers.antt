use Rattle.std.proofs.Common.{take, arith}
use Rattle.mesh_text.proofs.Tables.{long_written}
use Rattle.mesh_text.proofs.fours.put_long.Goals as goal

pub returns-clause-written : goal.returns-clause-written
returns-clause-written c =
    long_written (take c.args.at c.args.room.now) _ _ c.args.n (omega (arith, c.requires.least)) c.ranges.n.fits c.put_short-at.ensures.written c.put_four.ensures.written
