use Rattle.std.proofs.Common.{◌≡◌, ℕ, ℤ, ◌+◌, ◌<◌, cond, get_or, int_le}
use Rattle.samples.specs.Signs.{IsBound}
use Rattle.iso_base.specs.SampleBytes.{sample_of}
use Rattle.raw_samples.proofs.in_bytes.fill_by_bound.Given as goal

abbrev pub invariant-loop-k : goal.invariant-loop-k
invariant-loop-k g l =
    (least : ℤ) → IsBound g.K.Number.Packed.Fits g.K.Number.Packed.value least l.bound → (j : ℕ) → j < l.k
    → get_or l.into j 0 ≡ cond (int_le least (sample_of g.K.SampleFormat.kind g.K.SampleFormat.big_endian l.bytes (l.start + j))) 1 0
