use Rattle.std.proofs.Common.{ap, ◌∙◌, List, Bool}
use Rattle.iso_defs.specs.Bricks.{case_number}
use Rattle.case_table.proofs.Values.{bytes_allowed, bytes_case}
use Rattle.case_table.proofs.case.classify.Goals as goal

pub classify_with-requires : goal.classify_with-requires
classify_with-requires g c = bytes_allowed c.args.values.now c.sign_byte-signs.result c.joined_among.result c.sign_byte-signs.ensures.bits c.joined_among.ensures

pub returns-clause-case : goal.returns-clause-case
returns-clause-case g c =
    c.classify_with.ensures.case ∙ bytes_case c.args.values.now c.sign_byte-signs.result c.joined_among.result c.sign_byte-signs.ensures.bits c.joined_among.ensures

pub returns-clause-number : goal.returns-clause-number
returns-clause-number g c =
    c.classify_with.ensures.number
    ∙ ap (λ (case : List Bool × List Bool). case_number case.0 case.1) (bytes_case c.args.values.now c.sign_byte-signs.result c.joined_among.result c.sign_byte-signs.ensures.bits c.joined_among.ensures)
