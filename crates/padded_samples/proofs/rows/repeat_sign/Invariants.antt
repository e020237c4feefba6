use Rattle.std.proofs.Common.{◌≡◌, ℕ, ◌<◌, ◌≤◌, get_or}
use Rattle.padded_samples.proofs.rows.repeat_sign.Given as goal

abbrev pub invariant-loop-k : goal.invariant-loop-k
invariant-loop-k l =
    ((i : ℕ) → l.fn.from ≤ i → i < l.k → get_or l.into i 0 ≡ l.sign) × ((i : ℕ) → i < l.fn.from → get_or l.into i 0 ≡ get_or l.fn.into i 0)
