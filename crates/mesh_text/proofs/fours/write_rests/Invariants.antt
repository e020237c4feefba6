use Rattle.std.proofs.Common.{◌≡◌, ℕ, ◌*◌, ◌<◌, take, drop}
use Rattle.mesh_text.specs.Fours.{rest_text}
use Rattle.mesh_text.proofs.fours.write_rests.Given as goal

abbrev pub invariant-loop-n : goal.invariant-loop-n
invariant-loop-n l = (l.at ≡ 4 * l.n) × ((j : ℕ) → j < l.n → take 4 (drop (4 * j) l.room) ≡ rest_text j)
