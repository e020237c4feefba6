use Rattle.std.proofs.Common.{◌∷◌, ◌∙◌, ap, inr, refl, sym}
use Rattle.mesh_read.specs.Ply.{ply_heads}
use Rattle.mesh_read.specs.SeenPly.{seen_heading, told}
use Rattle.mesh_read.proofs.PlyLines.{heads_first, heads_none}
use Rattle.mesh_read.proofs.PlyFolding.{refused_line, refused_end}
use Rattle.mesh_read.proofs.header.read_header.Goals as goal

pub returns-in-Some-fault_at-clause-refused : goal.returns-in-Some-fault_at-clause-refused
returns-in-Some-fault_at-clause-refused c =
    let t = told c.loop-text.header in
    let h = seen_heading c.heading_in-heading.result in
    let after = ply_heads c.in-Some.after.now in
    inr (refused_line t h (ply_heads c.loop-text.rest.now) after (ply_heads c.args.bytes.now) c.in-Some-fault_at.fault
    (heads_first c.loop-text.rest.now c.in-Some.text.now c.in-Some.after.now c.in-Some.ensures.line ∙ ap (λ x. x ∷ after) (sym c.heading_in-heading.ensures))
    refl (sym c.in-Some-fault_at.ensures) c.loop-text.invariant.folded)

pub returns-clause-refused : goal.returns-clause-refused
returns-clause-refused c =
    inr (refused_end (told c.loop-text.header) (ply_heads c.loop-text.rest.now) (ply_heads c.args.bytes.now)
    (heads_none c.loop-text.rest.now c.in_default.ensures.line) refl c.loop-text.invariant.folded c.loop-text.invariant.ended)
