use Rattle.std.proofs.Common.{◌≡◌, ℕ, ◌+◌, ◌<◌, get_or}
use Rattle.samples.specs.Signs.{sign_of}
use Rattle.window_mesh.specs.Views.{boxed_at}
use Rattle.window_mesh.proofs.view.BoxSamples.fill_each.Given as goal

abbrev pub invariant-loop-k : goal.invariant-loop-k
invariant-loop-k l = (i : ℕ) → i < l.k → get_or l.into i 0 ≡ sign_of l.fn.level (boxed_at l.self (l.fn.start + i))
