use Rattle.std.proofs.Common.{◌<◌, rules}
use Rattle.case_table.proofs.Numbering.{ambiguous_bound, flags_at}
use Rattle.case_table.proofs.faces.ambiguous_set.Goals as goal

pub returns-clause-faces : goal.returns-clause-faces
returns-clause-faces c =
    let small : c.args.signs < 256 = search rules in
    flags_at c.args.signs small

pub returns-clause-bound : goal.returns-clause-bound
returns-clause-bound c = ambiguous_bound c.args.signs
