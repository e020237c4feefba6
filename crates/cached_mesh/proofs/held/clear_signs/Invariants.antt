use Rattle.std.proofs.Common.{◌≡◌, ℕ, ◌<◌, get_or, length}
use Rattle.brick_mesh.specs.declared.slices.SignSlice.{SignSlice}
use Rattle.cached_mesh.specs.Held.{IsNoSlice}
use Rattle.cached_mesh.proofs.held.clear_signs.Given as goal

abbrev pub invariant-loop-place : goal.invariant-loop-place
invariant-loop-place l = record {
  long : length l.signed ≡ 256;
  none : (d : SignSlice) (k : ℕ) → k < l.place → IsNoSlice (get_or l.signed k d);
}
