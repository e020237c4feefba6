use Rattle.std.proofs.Common.{◌≡◌, ◌+◌, ◌*◌, ◌∙◌, ap, subst}
use Rattle.iso_defs.specs.Grid.{Grid}
use Rattle.flat_mesh.specs.Lattice.{Leveled}
use Rattle.mesh_walk.specs.Slots.{AreLaid}
use Rattle.mesh_walk.proofs.SlotRows.{around_is, laid_next}
use Rattle.mesh_walk.proofs.slots.CellEdgeSlots.move_to.Goals as goal

pub returns-clause-ready : goal.returns-clause-ready
returns-clause-ready g c =
    let v = g.R.Heights.leveled c.args.rows.now in
    let expected = g.S.Slots.expected c.args.walk.style c.args.walk.numbers v in
    let ny : c.ny.result ≡ v.grid.ny = c.ny.ensures.value ∙ ap (λ (g : Grid). g.ny) c.sizes-sizes.ensures.value in
    let up = subst (λ (v : Leveled). AreLaid (g.S.Slots.at c.fill_row.new.self) (g.S.Slots.expected c.args.walk.style c.args.walk.numbers v) v (c.args.y + 1) c.args.z) c.fill_near_rows.ensures.volume c.fill_row.ensures.laid in
    let diagonal = subst (λ (v : Leveled). AreLaid (g.S.Slots.at c.fill_row-2.new.self) (g.S.Slots.expected c.args.walk.style c.args.walk.numbers v) v (c.args.y + 1) (c.args.z + 1)) (c.fill_row.ensures.volume ∙ c.fill_near_rows.ensures.volume) c.fill_row-2.ensures.laid in
    let are = around_is _ _ _ expected v c.args.y c.args.z c.sizes-sizes.ensures.leveled.grid.x.most c.fill_near_rows.ensures.near
    up c.fill_row.ensures.before c.fill_row.ensures.behind diagonal c.fill_row-2.ensures.before c.fill_row-2.ensures.behind in
    laid_next _ expected v c.args.y c.args.z _ c.requires.y (ap (λ n. c.args.y + n * c.args.z + 1) ny) are
