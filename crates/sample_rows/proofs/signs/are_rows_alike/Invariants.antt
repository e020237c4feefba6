use Rattle.std.proofs.Common.{◌≡◌, ℕ, ◌*◌, ◌<◌, get_or}
use Rattle.sample_rows.proofs.signs.are_rows_alike.Given as goal

abbrev pub invariant-loop-run : goal.invariant-loop-run
invariant-loop-run l = record {
  here : (k : ℕ) → k < 64 * l.run → get_or l.signs.here.now k 0 ≡ l.sign;
  up : (k : ℕ) → k < 64 * l.run → get_or l.signs.up.now k 0 ≡ l.sign;
  far : (k : ℕ) → k < 64 * l.run → get_or l.signs.far.now k 0 ≡ l.sign;
  both : (k : ℕ) → k < 64 * l.run → get_or l.signs.both.now k 0 ≡ l.sign;
}
