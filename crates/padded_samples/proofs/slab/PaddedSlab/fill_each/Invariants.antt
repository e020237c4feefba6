use Rattle.std.proofs.Common.{◌≡◌, ℕ, ◌+◌, ◌<◌, get_or}
use Rattle.padded_samples.specs.PaddedSlabs.{slab_at}
use Rattle.samples.specs.Signs.{sign_of}
use Rattle.padded_samples.proofs.slab.PaddedSlab.fill_each.Given as goal

abbrev pub invariant-loop-k : goal.invariant-loop-k
invariant-loop-k g l = (i : ℕ) → i < l.k → get_or l.into i 0 ≡ sign_of l.fn.level (slab_at l.self (l.fn.start + i))
