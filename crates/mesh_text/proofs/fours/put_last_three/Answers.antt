use Rattle.std.proofs.Common.{rules, arith}
use Rattle.mesh_text.proofs.Tables.{three_written}
use Rattle.mesh_text.proofs.fours.put_last_three.Goals as goal

pub returns-clause-written : goal.returns-clause-written
returns-clause-written c =
    three_written _ _ _ c.args.n c.args.at (search rules) c.requires.bound (omega (arith, c.requires.space)) c.put_four_bytes.ensures
