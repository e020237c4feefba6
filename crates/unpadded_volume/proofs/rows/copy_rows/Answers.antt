use Rattle.std.proofs.Common.{◌*◌, ◌≤◌, arith}
use Rattle.std.proofs.Math.Nat.{mul-le-mul_left}
use Rattle.unpadded_volume.proofs.Columns.{rows_whole}
use Rattle.unpadded_volume.proofs.rows.copy_rows.Goals as goal

pub copy_eights-x-requires-clause-room : goal.copy_eights-x-requires-clause-room
copy_eights-x-requires-clause-room g c =
    let l : c.args.sizes.now.nx * c.rows_of_bricks-rows.result.count ≤ c.args.sizes.now.nx * 9 = mul-le-mul_left c.args.sizes.now.nx (omega (arith, c.rows_of_bricks-rows.ensures.rows.y_low)) in
    omega (arith, l, c.requires.room)

pub copy_rest-requires-clause-room : goal.copy_rest-requires-clause-room
copy_rest-requires-clause-room g c =
    let l : c.args.sizes.now.nx * c.rows_of_bricks-rows.result.count ≤ c.args.sizes.now.nx * 9 = mul-le-mul_left c.args.sizes.now.nx (omega (arith, c.rows_of_bricks-rows.ensures.rows.y_low)) in
    omega (arith, l, c.requires.room, c.copy_eights-x.auto.samples)

pub returns-clause-value : goal.returns-clause-value
returns-clause-value g c =
    rows_whole c.args.store.now c.args.sizes.now c.rows_of_bricks-rows.result _ c.args.row _ c.sizes.ensures.volume c.requires.sizes c.rows_of_bricks-rows.ensures.first (omega (arith, c.rows_of_bricks-rows.ensures.first)) c.copy_rest.ensures
