use Rattle.iso_base.specs.Volume.{Volume}
use Rattle.packed_samples.specs.declared.width.Width.TheVariants.{U8, I16, U16, I32}
use Rattle.brick_store.proofs.Fitting.{room_in}
use Rattle.brick_store.proofs.copy_list.Kept.of_samples.Goals as goal

pub all_bricks-requires-clause-fits : goal.all_bricks-requires-clause-fits
all_bricks-requires-clause-fits g c =
    let v : Volume = record { grid = c.args.sizes.now; kind = c.args.kind; pad = c.args.pad; samples = g.S.Samples.list c.args.samples.now } in
    room_in v c.of.result U8 c.requires c.of.ensures c.in-U8.is

pub all_bricks-requires-in-I16-clause-fits : goal.all_bricks-requires-in-I16-clause-fits
all_bricks-requires-in-I16-clause-fits g c =
    let v : Volume = record { grid = c.args.sizes.now; kind = c.args.kind; pad = c.args.pad; samples = g.S.Samples.list c.args.samples.now } in
    room_in v c.of.result I16 c.requires c.of.ensures c.in-I16.is

pub all_bricks-requires-in-U16-clause-fits : goal.all_bricks-requires-in-U16-clause-fits
all_bricks-requires-in-U16-clause-fits g c =
    let v : Volume = record { grid = c.args.sizes.now; kind = c.args.kind; pad = c.args.pad; samples = g.S.Samples.list c.args.samples.now } in
    room_in v c.of.result U16 c.requires c.of.ensures c.in-U16.is

pub all_bricks-requires-in-I32-clause-fits : goal.all_bricks-requires-in-I32-clause-fits
all_bricks-requires-in-I32-clause-fits g c =
    let v : Volume = record { grid = c.args.sizes.now; kind = c.args.kind; pad = c.args.pad; samples = g.S.Samples.list c.args.samples.now } in
    room_in v c.of.result I32 c.requires c.of.ensures c.in-I32.is
