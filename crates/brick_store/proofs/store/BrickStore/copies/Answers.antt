use Rattle.std.proofs.Common.{subst}
use Rattle.iso_base.specs.Volume.{Volume}
use Rattle.brick_store.specs.Copies.{AreAllCopies}
use Rattle.brick_store.specs.Kept.{copies_in}
use Rattle.brick_store.proofs.Lending.{all_are}
use Rattle.brick_store.proofs.store.BrickStore.copies.Goals as goal

pub returns-clause-copies : goal.returns-clause-copies
returns-clause-copies c =
    let copies = copies_in c.self.inside.copies in
    rw c.lent.ensures.copies (subst (λ (v : Volume). AreAllCopies v.grid v.samples copies) c.self.view_is
    (all_are _ copies c.self.invariant.bricks.copies_are))
