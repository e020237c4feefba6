use Rattle.std.proofs.Common.{◌≡◌, ℕ, ◌<◌, ◌≤◌, IsTrue, get_or}
use Rattle.sample_rows.proofs.signs.are_from.Given as goal

abbrev pub invariant-loop-x : goal.invariant-loop-x
invariant-loop-x l = IsTrue l.alike → (k : ℕ) → l.from ≤ k → k < l.x → get_or l.bytes k 0 ≡ l.byte
