use Rattle.std.proofs.Common.{◌∙◌, sym}
use Rattle.case_table.proofs.Short.{all_short}
use Rattle.case_table.proofs.faces.joined_among.Goals as goal

pub joined_short-requires-clause-short : goal.joined_short-requires-clause-short
joined_short-requires-clause-short c = all_short c.args.values.now (sym c.are_short.ensures ∙ c.if-are_short.true)
