use Rattle.std.proofs.Common.{length}
use Rattle.byte_streams.proofs.Putting.{HasPut}
use Rattle.byte_streams.proofs.sink.write_all_of.Given as goal

abbrev pub invariant-loop-rest : goal.invariant-loop-rest
invariant-loop-rest g l = HasPut (g.K.Sink.seen l.fn.sink) (g.K.Sink.seen l.sink) l.bytes l.rest

abbrev pub decreases-loop-rest : goal.decreases-loop-rest
decreases-loop-rest g l = length l.rest
