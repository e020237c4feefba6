use Rattle.iso_base.specs.Volume.{Volume}
use Rattle.brick_store.specs.Kept.{copies_in}
use Rattle.brick_store.proofs.Gathering.{bricks_made}
use Rattle.brick_store.proofs.store.BrickStore.of_samples.Goals as goal

pub invariant_of-result : goal.invariant_of-result
invariant_of-result g c =
    let v : Volume = record { grid = c.args.sizes; kind = c.args.kind; pad = c.args.pad; samples = g.S.Samples.list c.args.samples.now } in
    record { bricks = (bricks_made v (copies_in c.in_ok-copies.copies) c.requires c.in_ok-copies.ensures.copies).0; width = c.in_ok-copies.ensures.width }

pub returns : goal.returns
returns g c =
    let v : Volume = record { grid = c.args.sizes; kind = c.args.kind; pad = c.args.pad; samples = g.S.Samples.list c.args.samples.now } in
    (bricks_made v (copies_in c.in_ok-copies.copies) c.requires c.in_ok-copies.ensures.copies).1
