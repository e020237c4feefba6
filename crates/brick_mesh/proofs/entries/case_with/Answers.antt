use Rattle.std.proofs.Common.{◌∙◌, ap₂}
use Rattle.iso_defs.specs.Bricks.{case_number}
use Rattle.brick_mesh.specs.Entries.{case_of}
use Rattle.brick_mesh.proofs.entries.case_with.Goals as goal

pub returns-clause-value : goal.returns-clause-value
unfolding case_of
returns-clause-value g c = c.number.ensures.value ∙ c.classify_with.ensures.number ∙ ap₂ case_number c.requires.signs c.joined_with-joined.ensures.faces
