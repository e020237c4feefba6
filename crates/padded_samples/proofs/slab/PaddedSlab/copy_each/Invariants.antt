use Rattle.std.proofs.Common.{◌≡◌, ℕ, ◌+◌, ◌<◌, ◌≤◌, map}
use Rattle.iso_base.specs.Volume.{sample}
use Rattle.padded_samples.specs.PaddedSlabs.{slab_at}
use Rattle.padded_samples.proofs.slab.PaddedSlab.copy_each.Given as goal

abbrev pub invariant-loop-k : goal.invariant-loop-k
invariant-loop-k g l = (j : ℕ) → 0 ≤ j → j < l.k → sample (map g.T.Packed.value l.into) j ≡ slab_at l.self (l.start + j)
