use Rattle.std.proofs.Common.{◌*◌}
use Rattle.brick_mesh.specs.Signs.{AreSlice}
use Rattle.brick_mesh.proofs.entries.bytes_of_slice.Given as goal

abbrev pub invariant-loop-y : goal.invariant-loop-y
invariant-loop-y l = record { slice : AreSlice l.block l.z (8 * l.y) l.bytes }
