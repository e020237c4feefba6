use Rattle.std.proofs.Common.{◌≤◌, get_or, arith}
use Rattle.flat_mesh.proofs.SignBytes.{signs_are_bits}
use Rattle.sample_rows.proofs.SignRows.{quiet_by_signs, still_by_signs}
use Rattle.sample_rows.proofs.signs.are_alike.Goals as goal

pub returns-clause-still : goal.returns-clause-still
returns-clause-still g c alike =
    let same = c.are_rows_alike.ensures in
    still_by_signs (g.H.Heights.leveled c.args.field.now) c.sizes.ensures.leveled c.args.y c.args.z c.requires.y c.requires.z c.args.signs c.requires.signs (get_or c.args.signs.here.now 0 0)
    (same.here alike) (same.up alike) (same.far alike)

pub returns-clause-none : goal.returns-clause-none
returns-clause-none g c alike =
    let v = (g.H.Heights.leveled c.args.field.now) in
    let here = c.args.signs.here.now in
    let same = c.are_rows_alike.ensures in
    let small : get_or here 0 0 ≤ 1 = (signs_are_bits v c.args.y c.args.z here c.requires.signs.here).bits 0 0 (omega (arith, c.requires.signs.here.count, c.sizes.ensures.leveled.grid.x.least)) in
    quiet_by_signs v c.sizes.ensures.leveled c.args.y c.args.z c.requires.y c.requires.z c.args.signs c.requires.signs (get_or here 0 0)
    (same.here alike) (same.up alike) (same.far alike) (same.both alike) small
