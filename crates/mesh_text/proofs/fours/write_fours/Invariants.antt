use Rattle.std.proofs.Common.{◌≡◌, ℕ, ◌*◌, ◌<◌, take, drop}
use Rattle.mesh_text.specs.Fours.{four_digits}
use Rattle.mesh_text.proofs.fours.write_fours.Given as goal

abbrev pub invariant-loop-n : goal.invariant-loop-n
invariant-loop-n l = (l.at ≡ 4 * l.n) × ((j : ℕ) → j < l.n → take 4 (drop (4 * j) l.room) ≡ four_digits j)
