use Rattle.std.proofs.Common.{◌≡◌, ℕ, ◌<◌, drop, length, map, take}
use Rattle.iso_base.specs.Volume.{sample}
use Rattle.window_mesh.specs.Views.{boxed_list}
use Rattle.window_mesh.proofs.view.BoxSamples.copy_each.Given as goal

abbrev pub invariant-loop-k : goal.invariant-loop-k
invariant-loop-k g l = (j : ℕ) → j < l.k → sample (map g.T.Packed.value l.into) j ≡ sample (take (length l.fn.into) (drop l.start (boxed_list l.self))) j
