use Rattle.std.proofs.Common.{◌≡◌, ℕ, ◌+◌, ◌*◌, ◌<◌, length}
use Rattle.iso_base.specs.Volume.{sample}
use Rattle.brick_store.proofs.row_samples.copy_eights.Given as goal

abbrev pub invariant-loop-k : goal.invariant-loop-k
invariant-loop-k g l = record {
  count : length l.into ≡ length l.fn.into;
  taken : (j d : ℕ) → j < l.k → d < 8 → sample l.into (8 * j + d) ≡ sample (g.C.PackedList.list l.copies) (l.place + 729 * j + d);
}
