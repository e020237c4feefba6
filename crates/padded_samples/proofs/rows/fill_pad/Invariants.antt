use Rattle.std.proofs.Common.{◌≡◌, ℕ, ◌<◌, ◌≤◌, ◌⊎◌, map}
use Rattle.iso_base.specs.Volume.{sample}
use Rattle.padded_samples.proofs.rows.fill_pad.Given as goal

abbrev pub invariant-loop-k : goal.invariant-loop-k
invariant-loop-k g l =
    ((j : ℕ) → l.fn.from ≤ j → j < l.k → sample (map g.T.Packed.value l.into) j ≡ l.fn.pad)
    × ((j : ℕ) → (j < l.fn.from) ⊎ (l.fn.to ≤ j) → sample (map g.T.Packed.value l.into) j ≡ sample (map g.T.Packed.value l.fn.into) j)
