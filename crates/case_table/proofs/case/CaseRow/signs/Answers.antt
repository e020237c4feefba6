use Rattle.std.proofs.Common.{◌∙◌, ap, ◌/◌, ◌^◌, ◌<◌, rules, get_or}
use Rattle.iso_defs.specs.Bricks.{bits_of}
use Rattle.corner_signs.proofs.Bits.{bits_of_eight}
use Rattle.case_table.specs.Cases.{case_signs}
use Rattle.case_table.specs.declared.rows.TheConstants.{ROWS}
use Rattle.case_table.proofs.Numbering.{is_case}
use Rattle.case_table.proofs.Table.{signs_at}
use Rattle.case_table.proofs.case.CaseRow.signs.Goals as goal

pub returns-clause-number : goal.returns-clause-number
returns-clause-number c =
    let small : c.args.self < 656 = search rules in
    c.sign_field.ensures ∙ ap (λ r. r / 2 ^ 48) (c.packed_row.ensures.value ∙ ap (λ n. get_or ROWS n 0) c.self.view_is) ∙ signs_at c.args.self small

pub returns-clause-bits : goal.returns-clause-bits
returns-clause-bits c =
    let small : c.args.self < 656 = search rules in
    ap (bits_of 8) (returns-clause-number c) ∙ bits_of_eight (case_signs c.args.self) (is_case c.args.self small).corners
