use Rattle.std.proofs.Common.{◌-◌, ◌*◌}
use Rattle.brick_rows.specs.Rows.{AreZerosFrom, HasMoreFlags}
use Rattle.brick_rows.proofs.points.flag_bricks.Given as goal

abbrev pub invariant-loop-x : goal.invariant-loop-x
invariant-loop-x g l = record {
  flags : HasMoreFlags l.field l.row.y l.row.z (8 * l.x) l.flags;
  zeros : AreZerosFrom (8 * l.x) l.flags;
}

abbrev pub decreases-loop-x : goal.decreases-loop-x
decreases-loop-x g l = l.last - l.x
