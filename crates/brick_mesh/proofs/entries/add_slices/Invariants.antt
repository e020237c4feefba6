use Rattle.std.proofs.Common.{◌≡◌, ◌+◌, ◌*◌, length}
use Rattle.brick_mesh.specs.Entries.{entries_from}
use Rattle.brick_mesh.proofs.entries.add_slices.Given as goal

abbrev pub invariant-loop-z : goal.invariant-loop-z
invariant-loop-z g l = record {
  entries : l.entries.items ≡ entries_from l.block 0 (64 * l.z);
  counted : l.steps ≡ l.initial.steps + length l.entries.items;
}
