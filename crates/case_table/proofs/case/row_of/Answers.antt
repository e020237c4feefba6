use Rattle.std.proofs.Common.{◌<◌, ◌∙◌, rules}
use Rattle.case_table.proofs.Numbering.{row_back, row_number, row_small}
use Rattle.case_table.proofs.case.row_of.Goals as goal

pub invariant_of-result : goal.invariant_of-result
invariant_of-result c =
    let byte : c.args.signs < 256 = search rules in
    let eight : c.args.joined < 256 = search rules in
    row_small c.args.signs c.args.joined c.ambiguous_set.result c.first_of.result c.from.result byte eight c.requires
    c.ambiguous_set.ensures.faces c.ambiguous_set.ensures.bound c.first_of.ensures.value (c.from.ensures ∙ c.pack.ensures.value)

pub returns-clause-case : goal.returns-clause-case
returns-clause-case c =
    let byte : c.args.signs < 256 = search rules in
    let eight : c.args.joined < 256 = search rules in
    row_back c.args.signs c.args.joined c.ambiguous_set.result c.first_of.result c.from.result byte eight c.requires
    c.ambiguous_set.ensures.faces c.ambiguous_set.ensures.bound c.first_of.ensures.value (c.from.ensures ∙ c.pack.ensures.value)

pub returns-clause-number : goal.returns-clause-number
returns-clause-number c =
    let byte : c.args.signs < 256 = search rules in
    let eight : c.args.joined < 256 = search rules in
    row_number c.args.signs c.args.joined c.ambiguous_set.result c.first_of.result c.from.result byte eight c.requires
    c.ambiguous_set.ensures.faces c.ambiguous_set.ensures.bound c.first_of.ensures.value (c.from.ensures ∙ c.pack.ensures.value)
