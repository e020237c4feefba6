use Rattle.std.proofs.Common.{◌*◌, subst, sym}
use Rattle.brick_store.specs.Copies.{AreCopiesOf}
use Rattle.brick_store.proofs.Lending.{part_is}
use Rattle.brick_store.proofs.store.BrickStore.brick_in.Goals as goal

pub returns : goal.returns
returns g c =
    subst (AreCopiesOf c.args.self.now.grid c.args.self.now.samples c.args.brick.0) (sym (part_is g.T.Packed.value c.args.copies.now (729 * c.args.brick.0)))
    (c.requires.copies.each c.args.brick.0 c.requires.brick)
