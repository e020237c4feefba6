use Rattle.std.proofs.Common.{◌≡◌, ◌+◌, ◌-◌, ◌%◌, ◌≤◌, map}
use Rattle.unpadded_volume.specs.Rows.{HasColumns}
use Rattle.unpadded_volume.proofs.rows.copy_eights.Given as goal

abbrev pub invariant-loop-x : goal.invariant-loop-x
invariant-loop-x g l = record {
  columns : HasColumns l.store l.rows l.x (map g.T.Packed.value l.samples);
  eights : l.x % 8 ≡ 0;
  within : l.x ≤ l.width;
}

abbrev pub decreases-loop-x : goal.decreases-loop-x
decreases-loop-x g l = l.width + 1 - l.x
