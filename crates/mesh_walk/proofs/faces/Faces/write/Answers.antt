use Rattle.std.proofs.Common.{◌+◌, ◌*◌, ◌≤◌, ◌∙◌, All, ap, arith, length, map, subst, sym}
use Rattle.std.proofs.lemmas.Result.{IfOk-weaker}
use Rattle.mesh_text.specs.Numbers.{text_at}
use Rattle.mesh_walk.specs.Slots.{AreAround}
use Rattle.mesh_walk.specs.Texts.{HasText, number_due}
use Rattle.mesh_walk.proofs.Adding.{adds_as}
use Rattle.mesh_walk.proofs.RowCentres.{few_cells, low_cells}
use Rattle.mesh_walk.proofs.RowFaces.{faces_three, faces_to, listed_have, listed_texts, row_lines}
use Rattle.mesh_walk.proofs.TextSlots.{around_still}
use Rattle.mesh_walk.proofs.faces.Faces.write.Goals as goal

pub list_corners-count-requires-clause-cells : goal.list_corners-count-requires-clause-cells
list_corners-count-requires-clause-cells g c = low_cells (g.H.Heights.leveled c.args.field.now) c.sizes.ensures.leveled.grid c.args.self.now.cells c.requires.cells

pub put_faces-requires : goal.put_faces-requires
put_faces-requires g c =
    let v = g.H.Heights.leveled c.args.field.now in
    let is = c.sizes.ensures.leveled.grid in
    let style = c.args.walk.style in
    let base = c.args.walk.numbers in
    let firsts = c.requires.first in
    let cells = c.args.self.now.cells in
    let texts = c.set_centres.new.self.texts in
    let around : AreAround (text_at texts) (number_due style base v) v cells.y cells.z
    = around_still v is (text_at c.args.self.now.texts.slots.texts) (text_at texts) (number_due style base v) c.set_centres.ensures.edges cells.y cells.z c.requires.texts in
    subst (All (HasText texts)) (sym c.list_corners-count.ensures.put) (listed_have v is style base firsts cells c.requires.cells texts around c.set_centres.ensures.centres cells.count (omega arith))

pub returns-clause-adds : goal.returns-clause-adds
returns-clause-adds g c =
    let v = g.H.Heights.leveled c.args.field.now in
    let is = c.sizes.ensures.leveled.grid in
    let style = c.args.walk.style in
    let base = c.args.walk.numbers in
    let firsts = c.requires.first in
    let cells = c.args.self.now.cells in
    let texts = c.set_centres.new.self.texts in
    let around : AreAround (text_at texts) (number_due style base v) v cells.y cells.z
    = around_still v is (text_at c.args.self.now.texts.slots.texts) (text_at texts) (number_due style base v) c.set_centres.ensures.edges cells.y cells.z c.requires.texts in
    let same = ap (map (text_at texts)) c.list_corners-count.ensures.put ∙ listed_texts v is style base firsts cells c.requires.cells texts around c.set_centres.ensures.centres cells.count (omega arith) in
    adds_as _ _ _ _ _ _ _ (row_lines v is style base firsts cells c.requires.cells texts around c.set_centres.ensures.centres)
    (c.put_faces.ensures.adds (faces_to v is style base firsts cells c.requires.cells cells.count) (faces_three v is style base firsts cells c.requires.cells cells.count) same)

pub returns-clause-bytes : goal.returns-clause-bytes
returns-clause-bytes g c =
    let v = g.H.Heights.leveled c.args.field.now in
    let cells = c.args.self.now.cells in
    let listed = c.list_corners-count.ensures in
    IfOk-weaker c.put_faces.result _ (λ _. c.put_faces.new.block.total ≤ c.args.block.now.total + 3072 * v.grid.nx)
    (λ _ bytes. omega (arith, bytes, ap length listed.put, listed.count, listed.few, few_cells v c.sizes.ensures.leveled.grid cells c.requires.cells)) c.put_faces.ensures.bytes
