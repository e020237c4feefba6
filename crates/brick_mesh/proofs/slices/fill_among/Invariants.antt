use Rattle.std.proofs.Common.{◌≡◌, ℕ, ◌+◌, ◌*◌, ◌<◌, [], get_or, length}
use Rattle.brick_mesh.specs.Signs.{AreBytes}
use Rattle.brick_mesh.proofs.slices.fill_among.Given as goal

abbrev pub invariant-loop-y : goal.invariant-loop-y
invariant-loop-y g l = record {
  long : length l.rows ≡ 8;
  bytes : (k : ℕ) → k < l.y → AreBytes l.block (k + 8 * l.z) (get_or l.rows k []);
}
