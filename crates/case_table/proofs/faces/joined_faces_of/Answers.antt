use Rattle.std.proofs.Common.{IsTrue, ◌∙◌, ap, refl, subst, sym}
use Rattle.iso_defs.specs.Cell.{joined_of, signs_of}
use Rattle.iso_defs.specs.Bricks.{bits_of}
use Rattle.corner_signs.proofs.Bits.{bits_of_six}
use Rattle.case_table.specs.Cases.{are_ambiguous}
use Rattle.case_table.proofs.Flags.{values_allowed}
use Rattle.case_table.proofs.Values.{eight_allowed}
use Rattle.case_table.proofs.faces.joined_faces_of.Goals as goal

pub returns-clause-faces : goal.returns-clause-faces
returns-clause-faces c = ap (bits_of 6) c.joined_among.ensures ∙ bits_of_six (joined_of c.args.values.now) refl

pub returns-clause-ambiguous : goal.returns-clause-ambiguous
returns-clause-ambiguous c =
    subst (λ signs. IsTrue (are_ambiguous signs (bits_of 8 c.joined_among.result))) (sym c.requires.signs)
    (eight_allowed (signs_of c.args.values.now) (joined_of c.args.values.now) c.joined_among.result refl (values_allowed c.args.values.now) c.joined_among.ensures)
