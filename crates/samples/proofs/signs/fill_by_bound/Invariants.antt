use Rattle.std.proofs.Common.{◌≡◌, ℕ, ℤ, ◌<◌, cond, get_or, int_le, map}
use Rattle.iso_base.specs.Volume.{sample}
use Rattle.samples.specs.Signs.{IsBound}
use Rattle.samples.proofs.signs.fill_by_bound.Given as goal

abbrev pub invariant-loop-k : goal.invariant-loop-k
invariant-loop-k g l =
    (least : ℤ) → IsBound g.T.Packed.Fits g.T.Packed.value least l.bound → (j : ℕ) → j < l.k → get_or l.into j 0 ≡ cond (int_le least (sample (map g.T.Packed.value l.numbers) j)) 1 0
