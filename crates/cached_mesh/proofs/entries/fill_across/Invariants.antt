use Rattle.std.proofs.Common.{All, ◌≡◌, ℕ, ◌*◌, ◌<◌, ◌≤◌, get_or, length, ltb}
use Rattle.std.specs.List.Sorted.{IsPartitionedBy}
use Rattle.cached_mesh.specs.Kept.{last_case}
use Rattle.cached_mesh.proofs.entries.fill_across.Given as goal

abbrev pub invariant-loop-left : goal.invariant-loop-left
invariant-loop-left l = record {
  cells : All (λ e. e < 524288) l.left;
  begins : IsPartitionedBy (λ e. ltb e (65536 * l.fn.across.first)) l.left;
  ends : IsPartitionedBy (λ e. ltb e (65536 * l.fn.across.end)) l.left;
  written : (k : ℕ) → 64 * l.fn.across.first ≤ k → k < 64 * l.fn.across.end → last_case (get_or l.cases k 0) l.left k ≡ last_case 0 l.fn.entries k;
}

abbrev pub decreases-loop-left : goal.decreases-loop-left
decreases-loop-left l = length l.left
