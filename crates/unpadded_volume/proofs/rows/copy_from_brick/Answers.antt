use Rattle.std.proofs.Common.{refl, arith, map}
use Rattle.brick_store.proofs.Standing.{few_bricks}
use Rattle.unpadded_volume.proofs.Columns.{columns_more}
use Rattle.unpadded_volume.proofs.rows.copy_from_brick.Goals as goal

pub brick_in-requires-clause-brick : goal.brick_in-requires-clause-brick
brick_in-requires-clause-brick g c = c.requires.rows.bricks c.args.brick c.requires.brick

pub overflow_add-rows : goal.overflow_add-rows
overflow_add-rows g c = omega (arith, c.requires.rows.bricks c.args.brick c.requires.brick, few_bricks c.args.store.now.grid c.sizes.ensures.volume.grid)

pub returns : goal.returns
returns g c =
    columns_more c.args.store.now c.args.sizes.now c.args.rows.now c.args.brick c.args.offset c.args.count c.args.at (map g.T.Packed.value c.brick_in.result.now) (map g.T.Packed.value c.args.samples.now) (map g.T.Packed.value c.copy_pieces.new.samples) _ _
    c.requires.sizes c.requires.rows c.requires.brick c.requires.place c.requires.inside c.requires.fits c.brick_in.ensures refl c.nx.ensures.value c.copy_pieces.ensures c.requires.before
