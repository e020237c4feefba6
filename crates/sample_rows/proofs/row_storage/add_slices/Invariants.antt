use Rattle.std.proofs.Common.{◌≡◌, ◌*◌, ◌<◌, length}
use Rattle.sample_rows.specs.Kept.{AreKept, HaveBuffers}
use Rattle.sample_rows.specs.Signs.{AreSliceSigns}
use Rattle.sample_rows.proofs.row_storage.add_slices.Given as goal

abbrev pub invariant-loop-z : goal.invariant-loop-z
invariant-loop-z g l = record {
  near : l.z < l.field.grid.nz → AreSliceSigns l.field l.z l.signs.near.items;
  far : length l.signs.far.items ≡ l.field.grid.nx * l.field.grid.ny;
  kept : AreKept l.field (l.field.grid.ny * l.z) l.kept;
  buffers : HaveBuffers l.field.grid l.row;
}
