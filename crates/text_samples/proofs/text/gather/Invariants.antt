use Rattle.std.proofs.Common.{List, ℤ}
use Rattle.text_samples.proofs.TextLaws.{IsReading}
use Rattle.text_samples.proofs.text.gather.Given as goal

-- the samples so far, and what holds them
abbrev pub invariant-loop-place : goal.invariant-loop-place
invariant-loop-place g l = (done : List ℤ) × IsReading l.kind l.count l.bytes l.place done l.rest × g.G.Gather.Holds l.samples l.kind done
