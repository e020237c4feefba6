use Rattle.std.proofs.Common.{List, ℤ}
use Rattle.text_samples.proofs.HexLaws.{IsDecoding}
use Rattle.text_samples.proofs.hex.gather.Given as goal

-- the samples so far, and what holds them
abbrev pub invariant-loop-place : goal.invariant-loop-place
invariant-loop-place g l = (done : List ℤ) × IsDecoding l.kind l.big_endian l.count l.bytes l.place done l.rest × g.G.Gather.Holds l.samples l.kind done
