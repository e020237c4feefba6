use Rattle.std.proofs.Common.{rules, Ok, ap, sym, ◌∙◌}
use Rattle.iso_base.specs.Triangles.{Mesh}
use Rattle.mesh_read.specs.Obj.{IsFace, obj_of}
use Rattle.text_lines.specs.Words.{words_of}
use Rattle.mesh_read.proofs.AnswerLaws.{fails_with}
use Rattle.mesh_read.proofs.ObjLaws.{stepped, refused, all_said}
use Rattle.mesh_read.proofs.obj.read_obj.Goals as goal

pub returns-in_err-face-in-Face : goal.returns-in_err-face-in-Face
returns-in_err-face-in-Face c =
    let fault = c.in_err-face-in-Face.field-0.0 in
    let before = stepped c.args.bytes.now c.loop-text.rest.now c.in-Some.text.now c.in-Some.after.now c.loop-text.number c.loop-text.vertices c.loop-text.triangles.items (IsFace (words_of c.in-Face.references.now)) c.in-Some.ensures.line c.in-Face.ensures c.loop-text.invariant.walked in
    let read = refused c.args.bytes.now c.in-Some.after.now c.loop-text.number c.loop-text.vertices c.loop-text.triangles.items (words_of c.in-Face.references.now) fault (sym c.in_err-face-in-Face.ensures.value) before in
    let fails = fails_with fault (obj_of c.args.bytes.now) read in
    grind (fails, rules)

pub returns : goal.returns
returns c = all_said c.args.bytes.now c.loop-text.rest.now c.loop-text.number c.loop-text.vertices c.loop-text.triangles.items c.in_default.ensures.line c.loop-text.invariant.walked ∙ ap (λ (m : Mesh). Ok m) (sym c.new.ensures)
