use Rattle.std.proofs.Common.{◌≡◌, ℕ, ◌*◌, ◌<◌, get_or}
use Rattle.samples.specs.Signs.{sign_of}
use Rattle.window_mesh.specs.Views.{boxed_at}
use Rattle.window_mesh.proofs.view.BoxSamples.fill_rows.Given as goal

abbrev pub invariant-loop-number : goal.invariant-loop-number
invariant-loop-number l = (i : ℕ) → i < l.self.window.grid.nx * l.number → get_or l.into i 0 ≡ sign_of l.fn.level (boxed_at l.self i)
