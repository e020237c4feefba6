use Rattle.std.proofs.Common.{◌≡◌, ◌∙◌, ap, arith, sym, subst}
use Rattle.iso_defs.specs.Grid.{Grid}
use Rattle.flat_mesh.specs.Lattice.{Leveled}
use Rattle.mesh_rows.specs.Rows.{AreCases}
use Rattle.stitch.proofs.AskedRows.{asked_row_is}
use Rattle.stitch.proofs.ListedRows.{cells_active}
use Rattle.stitch.proofs.store.StoreRowsMeshRows.list_cells.Goals as goal

pub keep_cells-requires-clause-cells : goal.keep_cells-requires-clause-cells
keep_cells-requires-clause-cells g c =
    let v : Leveled = c.case_cells.new.self.field.now in
    let width : c.nx-nx.result ≡ v.grid.nx = c.nx-nx.ensures.value ∙ ap (λ (g : Grid). g.nx) c.sizes.ensures.value in
    let same : c.deref.result.now ≡ c.case_cells.new.self.known.now.cases.value = cc in
    let are : AreCases v c.args.y c.args.z c.deref.result.now
    = subst (λ (v : Leveled). AreCases v c.args.y c.args.z c.deref.result.now) (sym c.case_cells.ensures.field)
    (subst (AreCases c.args.self.now.field.now c.args.y c.args.z) (sym same) c.case_cells.ensures.cases) in
    cells_active v c.args.y c.args.z c.nx-nx.result c.deref.result.now _ _ width are c.list_cases-count.ensures.places c.list_cases-count.ensures.cases

pub returns-clause-cells : goal.returns-clause-cells
returns-clause-cells g c =
    let v : Leveled = c.args.self.now.field.now in
    let width : c.nx-nx.result ≡ v.grid.nx
    = c.nx-nx.ensures.value ∙ (ap (λ (g : Grid). g.nx) c.sizes.ensures.value ∙ ap (λ (v : Leveled). v.grid.nx) c.case_cells.ensures.field) in
    let same : c.deref.result.now ≡ c.case_cells.new.self.known.now.cases.value = cc in
    cells_active v c.args.y c.args.z c.nx-nx.result c.deref.result.now _ _ width (subst (AreCases v c.args.y c.args.z) (sym same) c.case_cells.ensures.cases) c.list_cases-count.ensures.places c.list_cases-count.ensures.cases

pub returns-clause-most : goal.returns-clause-most
returns-clause-most g c =
    let v : Leveled = c.args.self.now.field.now in
    let row = asked_row_is v (g.R.CellRows.named c.args.self.now.rows.now) c.args.y c.args.z (omega (arith, c.requires.y)) in
    omega (arith, c.case_cells.ensures.most, row)
