use Rattle.std.proofs.Common.{◌≡◌, ℕ, ◌<◌, ◌≤◌, length, decimal, slice_index}
use Rattle.mesh_text.proofs.fours.write_counts.Given as goal

abbrev pub invariant-loop-n : goal.invariant-loop-n
invariant-loop-n l = (j : ℕ) → j < l.n → (slice_index l.counts j ≡ length (decimal j)) × (slice_index l.counts j ≤ 4)
