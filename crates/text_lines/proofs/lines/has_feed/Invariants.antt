use Rattle.std.proofs.Common.{◌≡◌, ℕ, ◌+◌, ◌<◌, false, eqb, get_or}
use Rattle.text_lines.proofs.lines.has_feed.Given as goal

abbrev pub invariant-loop-i : goal.invariant-loop-i
invariant-loop-i l = l.found ≡ false → (k : ℕ) → k < l.i → eqb (get_or l.bytes (l.from + k) 0) 10 ≡ false
