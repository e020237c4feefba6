use Rattle.std.proofs.Common.{◌≡◌, ℕ, ◌<◌, map}
use Rattle.iso_base.specs.Volume.{sample}
use Rattle.samples.proofs.list.copy_all.Given as goal

abbrev pub invariant-loop-k : goal.invariant-loop-k
invariant-loop-k g l = (j : ℕ) → j < l.k → sample (map g.U.Packed.value l.into) j ≡ sample (map g.T.Packed.value l.numbers) j
