use Rattle.std.proofs.Common.{All, length, map}
use Rattle.nrrd_text.specs.Forms.{IsOfForm, printed}
use Rattle.nrrd_text.proofs.Lines.{HasPrinted}
use Rattle.nrrd_text.proofs.pieces.gather_counted.Given as goal

abbrev pub invariant-loop-rest : goal.invariant-loop-rest
invariant-loop-rest g l = record {
  printed : HasPrinted (printed l.form) (g.K.Sink.seen l.fn.sink) (g.K.Sink.seen l.sink) l.fn.waiting l.waiting (map g.T.Packed.value l.values) (map g.T.Packed.value l.rest) l.bytes;
  form : All (IsOfForm l.form) (map g.T.Packed.value l.rest);
}

abbrev pub decreases-loop-rest : goal.decreases-loop-rest
decreases-loop-rest g l = length l.rest
