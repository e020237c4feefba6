use Rattle.std.proofs.Common.{◌≡◌}
use Rattle.stitch.proofs.Forgetting.{AreStarts}
use Rattle.stitch.proofs.recent.RecentLists.forget_keys.Given as goal

abbrev pub invariant-loop-key : goal.invariant-loop-key
invariant-loop-key l = record {
  tags : l.self.tags.value ≡ l.fn.self.tags.value;
  counts : l.self.counts.value ≡ l.fn.self.counts.value;
  numbers : l.self.numbers ≡ l.fn.self.numbers;
  most : l.self.most ≡ l.fn.self.most;
  starts : AreStarts l.from l.key l.fn.self.starts.value l.self.starts.value;
}
