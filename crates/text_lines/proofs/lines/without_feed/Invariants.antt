use Rattle.std.proofs.Common.{◌≡◌, ℕ, ◌*◌, ◌<◌, false, eqb, get_or}
use Rattle.text_lines.proofs.lines.without_feed.Given as goal

abbrev pub invariant-loop-step : goal.invariant-loop-step
invariant-loop-step l = (k : ℕ) → k < 16 * l.step → eqb (get_or l.bytes k 0) 10 ≡ false
