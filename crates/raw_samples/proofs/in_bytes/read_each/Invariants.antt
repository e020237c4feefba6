use Rattle.std.proofs.Common.{◌≡◌, ℕ, ◌+◌, ◌<◌, map}
use Rattle.iso_base.specs.Volume.{sample}
use Rattle.iso_base.specs.SampleBytes.{sample_of}
use Rattle.raw_samples.proofs.in_bytes.read_each.Given as goal

-- the first numbers are the samples
abbrev pub invariant-loop-k : goal.invariant-loop-k
invariant-loop-k g l = (j : ℕ) → j < l.k → sample (map g.T.Packed.value l.into) j ≡ sample_of g.K.SampleFormat.kind g.K.SampleFormat.big_endian l.bytes (l.start + j)
