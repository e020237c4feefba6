use Rattle.std.proofs.Common.{◌≡◌, ◌*◌}
use Rattle.brick_store.specs.Gathered.{first_copies}
use Rattle.brick_store.proofs.filling.add_bricks.Given as goal

abbrev pub invariant-loop-brick : goal.invariant-loop-brick
invariant-loop-brick g l = g.C.PackedList.list l.copies ≡ first_copies l.sizes (g.S.Samples.list l.samples) (729 * l.brick)
