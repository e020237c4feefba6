use Rattle.std.proofs.Common.{◌+◌, ◌*◌}
use Rattle.sample_rows.specs.Counted.{AreRowCounts, HaveCountRoom}
use Rattle.sample_rows.proofs.slice_counts.count_slice.Given as goal

abbrev pub invariant-loop-y : goal.invariant-loop-y
invariant-loop-y g l = record {
  counted : AreRowCounts l.field (l.y + l.field.grid.ny * l.z) l.counts;
  room : HaveCountRoom l.field.grid l.row;
}
