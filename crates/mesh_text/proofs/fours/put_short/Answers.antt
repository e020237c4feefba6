use Rattle.std.proofs.Common.{rules, arith}
use Rattle.mesh_text.proofs.Tables.{short_written}
use Rattle.mesh_text.proofs.fours.put_short.Goals as goal

pub returns-clause-written : goal.returns-clause-written
returns-clause-written c =
    short_written _ _ _ c.args.n c.args.at c.count_out_of-count.result (search rules) c.requires.bound
    c.count_out_of-count.ensures.value c.count_out_of-count.ensures.bound (omega (arith, c.requires.space)) c.put_four_bytes.ensures
