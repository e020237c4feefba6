use Rattle.std.proofs.Common.{◌+◌, ◌*◌}
use Rattle.sample_rows.specs.Kept.{AreKept, HaveBuffers}
use Rattle.sample_rows.proofs.row_storage.add_slice.Given as goal

abbrev pub invariant-loop-y : goal.invariant-loop-y
invariant-loop-y g l = record {
  kept : AreKept l.field (l.y + l.field.grid.ny * l.z) l.kept;
  buffers : HaveBuffers l.field.grid l.row;
}
