use Rattle.std.proofs.Common.{◌∙◌, ap, sym}
use Rattle.iso_defs.specs.Bricks.{bits_of, brick_cell}
use Rattle.iso_defs.specs.Cell.{cell_values, joined_of, signs_of}
use Rattle.case_table.specs.Cases.{ambiguous_flags}
use Rattle.case_table.proofs.Values.{none_joined}
use Rattle.brick_mesh.specs.Block.{heights}
use Rattle.brick_mesh.proofs.entries.joined_with.Goals as goal

pub returns-then-ambiguous_set-eq0-clause-faces : goal.returns-then-ambiguous_set-eq0-clause-faces
returns-then-ambiguous_set-eq0-clause-faces g c =
    let b = c.args.block.now in
    sym (none_joined (cell_values b.grid (heights b) (brick_cell b.grid b.brick c.args.cell))
    (sym (ap (bits_of 6) (sym c.if-ambiguous_set-eq0.true) ∙ (c.ambiguous_set.ensures.faces ∙ ap ambiguous_flags c.requires.signs))))

pub joined_faces_of-requires-clause-signs : goal.joined_faces_of-requires-clause-signs
joined_faces_of-requires-clause-signs g c = c.requires.signs ∙ ap signs_of (sym c.values.ensures.value)

pub returns-clause-faces : goal.returns-clause-faces
returns-clause-faces g c = c.joined_faces_of.ensures.faces ∙ ap joined_of c.values.ensures.value
