use Rattle.std.proofs.Common.{◌≡◌}
use Rattle.stitch.proofs.Forgetting.{AreWithoutRows}
use Rattle.stitch.proofs.room.RowRoom.forget_box.Given as goal

abbrev pub invariant-loop-z : goal.invariant-loop-z
invariant-loop-z l = record {
  ranks : l.self.ranks ≡ l.fn.self.ranks;
  rows : AreWithoutRows l.first_y l.end_y l.first_z l.z l.ny l.fn.self.known.recent l.self.known.recent;
}
