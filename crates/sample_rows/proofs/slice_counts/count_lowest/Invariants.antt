use Rattle.std.proofs.Common.{◌≡◌, ◌*◌, ◌<◌, length}
use Rattle.sample_rows.specs.Counted.{AreRowCounts, HaveCountRoom}
use Rattle.sample_rows.specs.Signs.{AreSliceSigns}
use Rattle.sample_rows.proofs.slice_counts.count_lowest.Given as goal

abbrev pub invariant-loop-z : goal.invariant-loop-z
invariant-loop-z g l = record {
  near : l.z < l.field.grid.nz → AreSliceSigns l.field l.z l.signs.near.items;
  far : length l.signs.far.items ≡ l.field.grid.nx * l.field.grid.ny;
  counted : AreRowCounts l.field (l.field.grid.ny * l.z) l.counts;
  room : HaveCountRoom l.field.grid l.row;
}
