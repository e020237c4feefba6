use Rattle.std.proofs.Common.{◌<◌, ◌%◌, ◌/◌, ℕ, [], get_or}
use Rattle.mesh_walk.specs.Listed.{HasCorners}
use Rattle.mesh_walk.proofs.corners.CornerSlots.fill.Given as goal

abbrev pub invariant-loop-side : goal.invariant-loop-side
invariant-loop-side l = record {
  filled : (s : ℕ) → s < l.side → HasCorners (s % 2) (s / 2) (get_or l.self.tables s []);
}
