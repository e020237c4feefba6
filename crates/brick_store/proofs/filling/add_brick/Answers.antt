use Rattle.std.proofs.Common.{◌≡◌, ◌*◌, ◌<◌, ◌^◌, length, arith}
use Rattle.iso_defs.specs.Bricks.{brick_count}
use Rattle.brick_store.proofs.Gathering.{length-first_copies}
use Rattle.brick_store.proofs.Standing.{few_bricks}
use Rattle.brick_store.proofs.filling.add_brick.Goals as goal

pub add_zeros-requires : goal.add_zeros-requires
add_zeros-requires g c =
    let few : brick_count c.args.sizes.now < 2 ^ 22 = few_bricks c.args.sizes.now c.first_point-first.ensures.grid in
    let size : length (g.C.PackedList.list c.args.copies.now) ≡ 729 * c.args.brick.0
    = length-first_copies c.args.sizes.now (g.S.Samples.list c.args.samples.now) _ _ c.requires.before in
    omega (arith, few, size, c.requires.brick)
