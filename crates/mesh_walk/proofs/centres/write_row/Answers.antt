use Rattle.std.proofs.Common.{◌*◌, sym}
use Rattle.mesh_walk.specs.Numbers.{row_number}
use Rattle.mesh_walk.proofs.Adding.{adds_as, adds_none}
use Rattle.mesh_walk.proofs.CentreLines.{quiet_centres}
use Rattle.mesh_walk.proofs.centres.write_row.Goals as goal

pub returns-then-not-find-clause-adds : goal.returns-then-not-find-clause-adds
returns-then-not-find-clause-adds g c =
    let v = g.R.Heights.leveled c.args.rows.now in
    let quiet = c.find.ensures.quiet c.if-not-find.true in
    let row = row_number v.grid c.args.row in
    adds_as _ _ _ _ _ _ _ (sym (quiet_centres c.args.walk.style v (v.grid.nx * row) v.grid.nx quiet)) (adds_none _ c.args.block.now tt)
