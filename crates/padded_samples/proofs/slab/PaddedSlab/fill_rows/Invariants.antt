use Rattle.std.proofs.Common.{◌≡◌, ℕ, ◌+◌, ◌*◌, ◌<◌, get_or}
use Rattle.padded_samples.specs.PaddedSlabs.{in_both}
use Rattle.padded_samples.specs.Pads.{padded_at}
use Rattle.samples.specs.Signs.{sign_of}
use Rattle.padded_samples.proofs.slab.PaddedSlab.fill_rows.Given as goal

abbrev pub invariant-loop-k : goal.invariant-loop-k
invariant-loop-k g l = (i : ℕ) → i < (l.self.grid.nx + 2) * l.k
    → get_or l.into i 0 ≡ sign_of l.fn.level (padded_at (in_both l.self) ((l.self.grid.nx + 2) * l.fn.first + i))
