use Rattle.std.proofs.Common.{◌≡◌, ◌+◌, ◌≤◌, ◌∙◌, sym, ap, subst, arith}
use Rattle.iso_defs.specs.Grid.{Grid}
use Rattle.mesh_walk.proofs.CellRuns.{cost_is, in_last_slice, last_of_slice}
use Rattle.mesh_walk.proofs.cells.RowCells.find.Goals as goal
use Rattle.mesh_walk.proofs.cells.RowCells.find.Goals.{then-y-ny-via-then-y-ny, then-y-ny-via-else-y-ny+then-z-nz, then-y-ny-via-else-y-ny+else-z-nz+then-is_quiet}

pub returns-then-y-ny-clause-quiet : goal.returns-then-y-ny-clause-quiet
returns-then-y-ny-clause-quiet g c = λ _.
    let v = g.R.Heights.leveled c.args.rows.now in
    let ny : c.ny.result ≡ v.grid.ny = c.ny.ensures.value ∙ ap (λ (g : Grid). g.ny) c.sizes-sizes.ensures.value in
    elim c.then-y-ny.branch [
      | then-y-ny-via-then-y-ny w ↦ last_of_slice v c.args.y c.args.z (omega (arith, w.if-y-ny.true, ny)) c.requires.z
      | then-y-ny-via-else-y-ny+then-z-nz w ↦ (
          let nz : w.nz.result ≡ v.grid.nz = w.nz.ensures.value ∙ ap (λ (g : Grid). g.nz) c.sizes-sizes.ensures.value in
          in_last_slice v c.args.y c.args.z c.requires.y (omega (arith, w.if-z-nz.true, nz)))
      | then-y-ny-via-else-y-ny+else-z-nz+then-is_quiet w ↦ w.is_quiet.ensures w.if-is_quiet.true
    ]

pub returns-clause-most : goal.returns-clause-most
returns-clause-most g c =
    let v = g.R.Heights.leveled c.args.rows.now in
    let ny : c.ny.result ≡ v.grid.ny = c.ny.ensures.value ∙ ap (λ (g : Grid). g.ny) c.sizes-sizes.ensures.value in
    let nz : c.nz.result ≡ v.grid.nz = c.nz.ensures.value ∙ ap (λ (g : Grid). g.nz) c.sizes-sizes.ensures.value in
    let same = cost_is v.grid (g.R.MeshRows.row_cost (g.R.MeshRows.kept c.args.rows.now)) c.args.y c.args.z (omega (arith, c.requires.y, c.if-y-ny.false, ny)) (omega (arith, c.requires.z, c.if-z-nz.false, nz)) in
    subst (λ n. g.R.MeshRows.spent c.move_to.new.rows ≤ g.R.MeshRows.spent c.args.rows.now + n) (sym same) c.move_to.ensures.most
