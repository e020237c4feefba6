use Rattle.std.proofs.Common.{◌≡◌, ℕ, ◌+◌, ◌<◌, length}
use Rattle.iso_base.specs.Volume.{sample}
use Rattle.iso_base.specs.SampleBytes.{sample_of}
use Rattle.raw_samples.proofs.in_bytes.read_known.Given as goal

-- so many numbers, of which the first are the samples
abbrev pub invariant-loop-k : goal.invariant-loop-k
invariant-loop-k g l = (length l.known ≡ g.row.N) × ((j : ℕ) → j < l.k → sample l.known j ≡ sample_of g.K.SampleFormat.kind g.K.SampleFormat.big_endian l.bytes (l.start + j))
