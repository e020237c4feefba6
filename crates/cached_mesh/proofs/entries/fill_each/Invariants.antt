use Rattle.std.proofs.Common.{◌≡◌, ℕ, ◌<◌, get_or, take}
use Rattle.cached_mesh.specs.Kept.{last_case}
use Rattle.cached_mesh.proofs.entries.fill_each.Given as goal

abbrev pub invariant-loop-entry : goal.invariant-loop-entry
invariant-loop-entry l = (k : ℕ) → k < 512 → get_or l.cases k 0 ≡ last_case (get_or l.initial.cases k 0) (take l.entry-index l.entries) k
