use Rattle.std.proofs.Common.{◌∙◌}
use Rattle.sample_rows.proofs.SignRows.{flags_by_signs}
use Rattle.sample_rows.proofs.signs.fill_flags.Goals as goal

pub returns : goal.returns
returns g c =
    flags_by_signs (g.H.Heights.leveled c.args.field.now) c.sizes.ensures.leveled c.args.y c.args.z c.requires.y c.requires.z c.args.signs c.requires.signs
    c.flag_row.new.out (c.flag_row.auto.out ∙ c.requires.count) c.flag_row.ensures
