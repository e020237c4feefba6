use Rattle.std.proofs.Common.{◌≡◌, ℕ, ℤ, ◌<◌, get_or, map}
use Rattle.iso_base.specs.Volume.{sample}
use Rattle.samples.specs.Signs.{sign_of}
use Rattle.brick_mesh.specs.Signs.{Tells}
use Rattle.brick_mesh.proofs.signs.fill_each_sign.Given as goal

abbrev pub invariant-loop-k : goal.invariant-loop-k
invariant-loop-k g l = (level : ℤ) → Tells g.T.Packed.Fits g.T.Packed.value level l.bound → (k : ℕ) → k < l.k
    → get_or l.into k 0 ≡ sign_of level (sample (map g.T.Packed.value l.copies) k)
