use Rattle.std.proofs.Common.{◌+◌, ◌*◌}
use Rattle.brick_store.specs.Gathered.{AreBegun}
use Rattle.brick_store.proofs.filling.write_slice.Given as goal

abbrev pub invariant-loop-row : goal.invariant-loop-row
invariant-loop-row g l = AreBegun l.sizes (g.S.Samples.list l.samples) l.fn.brick.0 (81 * l.fn.slice + 9 * l.row) (g.C.PackedList.list l.copies)
