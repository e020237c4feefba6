use Rattle.std.proofs.Common.{◌≡◌}
use Rattle.iso_defs.specs.Grid.{index}
use Rattle.brick_store.specs.Copies.{samples_of}
use Rattle.brick_store.specs.Gathered.{first_samples}
use Rattle.brick_store.proofs.flat.add_slice.Given as goal

abbrev pub invariant-loop-y : goal.invariant-loop-y
invariant-loop-y g l = l.samples.items ≡ first_samples (samples_of l.sizes (g.C.PackedList.list l.copies)) (index l.sizes 0 l.y l.z)
