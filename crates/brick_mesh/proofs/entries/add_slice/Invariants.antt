use Rattle.std.proofs.Common.{◌≡◌, ◌+◌, ◌*◌, false, length}
use Rattle.brick_mesh.specs.Entries.{entries_from}
use Rattle.row_bits.proofs.UnsetBits.{IsTold}
use Rattle.brick_mesh.proofs.Runs.{is_active_in}
use Rattle.brick_mesh.proofs.entries.add_slice.Given as goal

abbrev pub invariant-loop-bits : goal.invariant-loop-bits
invariant-loop-bits g l = record {
  entries : l.entries.items ≡ entries_from l.block 0 (64 * l.z + l.next);
  counted : l.steps + length l.initial.entries.items ≡ l.initial.steps + length l.entries.items;
  told : IsTold (λ k. is_active_in l.block (64 * l.z + k) ≡ false) 64 l.next l.bits;
}

abbrev pub decreases-loop-bits : goal.decreases-loop-bits
decreases-loop-bits g l = l.bits
