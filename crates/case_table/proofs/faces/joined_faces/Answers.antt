use Rattle.std.proofs.Common.{IsTrue, subst}
use Rattle.iso_defs.specs.Bricks.{bits_of}
use Rattle.case_table.specs.Cases.{are_ambiguous}
use Rattle.case_table.proofs.faces.joined_faces.Goals as goal

pub returns-clause-ambiguous : goal.returns-clause-ambiguous
returns-clause-ambiguous c = subst (λ signs. IsTrue (are_ambiguous signs (bits_of 8 c.joined_faces_of.result))) c.sign_byte.ensures.bits c.joined_faces_of.ensures.ambiguous
