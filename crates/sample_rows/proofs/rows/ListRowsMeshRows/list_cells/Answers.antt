use Rattle.std.proofs.Common.{◌≡◌, ◌<◌, ◌+◌, ◌∙◌, ap, arith, drop, length, subst, sym, take}
use Rattle.std.proofs.lemmas.List.{length-drop, length-take-le}
use Rattle.iso_defs.specs.Grid.{Grid}
use Rattle.flat_mesh.specs.Lattice.{Leveled}
use Rattle.mesh_rows.specs.Rows.{AreActive}
use Rattle.sample_rows.specs.Parts.{AreNumbers, part_places}
use Rattle.sample_rows.proofs.Views.{whole_active}
use Rattle.sample_rows.proofs.rows.ListRowsMeshRows.list_cells.Goals as goal

pub returns-then-part-clause-cells : goal.returns-then-part-clause-cells
returns-then-part-clause-cells g c =
    let v : Leveled = c.self.inside.field in
    let y = c.args.y in
    let z = c.args.z in
    let nx : c.nx-nx.result ≡ v.grid.nx = c.nx-nx.ensures.value ∙ ap (λ (g : Grid). g.nx) c.sizes.ensures.value in
    let row = c.numbers_from-numbers.result.now in
    let are : AreNumbers v y z row
    = subst (AreNumbers v y z) (sym (c.numbers_from-numbers.ensures ∙ ap (λ n. take n (drop c.part_of-part.result.start c.self.inside.kept.rows.list.items)) nx))
    (c.part_of-part.ensures.numbers c.if-part.true) in
    let places = take c.list_whole_cells.result c.list_whole_cells.new.places in
    let cases = take c.list_whole_cells.result c.list_whole_cells.new.cases in
    let hy : y + 1 < v.grid.ny = subst (λ (v : Leveled). y + 1 < v.grid.ny) (sym c.self.view_is) c.requires.y in
    let hz : z + 1 < v.grid.nz = subst (λ (v : Leveled). z + 1 < v.grid.nz) (sym c.self.view_is) c.requires.z in
    subst (λ (v : Leveled). AreActive v y z places cases) c.self.view_is
    (whole_active v y z row c.sizes.ensures.leveled are places cases hy hz c.list_whole_cells.ensures.places c.list_whole_cells.ensures.cases)

pub list_few_cells-requires-clause-few : goal.list_few_cells-requires-clause-few
list_few_cells-requires-clause-few g c =
    let v : Leveled = c.self.inside.field in
    let list = c.self.inside.kept.rows.list.items in
    let part = c.part_of-part.result in
    let few : length (part_places list part) < v.grid.nx = (c.part_of-part.ensures.cells c.if-part.false).few in
    let fit = c.part_of-part.ensures.few_fit c.if-part.false in
    let count : length (part_places list part) ≡ part.cells
    = length-take-le part.cells (drop (part.start + part.edges) list) (omega (arith, length-drop (part.start + part.edges) list, fit)) in
    omega (arith, count, few, c.sizes.ensures.leveled.grid.x.most)
