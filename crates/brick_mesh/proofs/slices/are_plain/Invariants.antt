use Rattle.std.proofs.Common.{◌≡◌, ℕ, ◌<◌, get_or}
use Rattle.brick_mesh.specs.Entries.{IsPlain}
use Rattle.brick_mesh.proofs.slices.are_plain.Given as goal

abbrev pub invariant-loop-x : goal.invariant-loop-x
invariant-loop-x l = record { plain : l.sets ≡ 0 → (x : ℕ) → x < l.x → IsPlain (get_or l.signs x 0) }
