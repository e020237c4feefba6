use Rattle.std.proofs.Common.{arith}
use Rattle.brick_rows.proofs.FlagRows.{flags_list}
use Rattle.brick_rows.proofs.points.flag_row.Goals as goal

pub returns-clause-list : goal.returns-clause-list
returns-clause-list c =
    flags_list c.args.field.now c.args.active.now.y c.args.active.now.z c.flag_active.new.flags (omega (arith, c.flag_active.auto.flags, c.requires.flags)) c.flag_active.ensures
