use Rattle.std.proofs.Common.{◌+◌, ◌*◌, sym, subst, rules, arith}
use Rattle.mesh_text.specs.Numbers.{text_at}
use Rattle.mesh_walk.specs.Slots.{IsReady}
use Rattle.mesh_walk.specs.Texts.{number_due}
use Rattle.mesh_walk.proofs.TextSlots.{ready_still}
use Rattle.mesh_walk.specs.Numbers.{row_number}
use Rattle.mesh_walk.proofs.Adding.{adds_as, adds_none}
use Rattle.mesh_walk.proofs.FaceLines.{quiet_faces, quiet_number}
use Rattle.mesh_walk.proofs.faces.write_row.Goals as goal

pub returns-then-not-find-clause-adds : goal.returns-then-not-find-clause-adds
returns-then-not-find-clause-adds g c =
    let v = g.R.Heights.leveled c.args.rows.now in
    let quiet = c.find.ensures.quiet c.if-not-find.true in
    let row = row_number v.grid c.args.row in
    adds_as _ _ _ _ _ _ _ (sym (quiet_faces c.args.walk.style.format c.args.walk.numbers v (v.grid.nx * row) v.grid.nx quiet)) (adds_none _ c.args.block.now tt)

pub returns-then-not-find-clause-next : goal.returns-then-not-find-clause-next
returns-then-not-find-clause-next g c =
    let v = g.R.Heights.leveled c.args.rows.now in
    let quiet = c.find.ensures.quiet c.if-not-find.true in
    let row = row_number v.grid c.args.row in
    quiet_number c.args.walk.numbers.first_centre v (v.grid.nx * row) v.grid.nx (v.grid.nx * (row + 1)) c.args.faces.now.next quiet (omega arith) c.requires.next

pub returns-clause-ready : goal.returns-clause-ready
returns-clause-ready g c =
    let v = g.R.Heights.leveled c.args.rows.now in
    let expected = number_due c.args.walk.style c.args.walk.numbers v in
    let ready : IsReady (text_at c.move_to.new.self.slots.texts) expected v c.move_to.new.self.next = search rules in
    let texts = text_at c.write.new.self.texts.slots.texts in
    subst (IsReady texts expected v) (sym c.write.ensures.row)
    (ready_still v c.sizes.ensures.leveled.grid (text_at c.move_to.new.self.slots.texts) texts expected c.write.ensures.edges c.move_to.new.self.next ready)
