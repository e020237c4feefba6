use Rattle.std.proofs.Common.{◌++◌, All, length, map}
use Rattle.std.specs.Prelude.{flat_map}
use Rattle.byte_streams.proofs.Staging.{HasStaged}
use Rattle.nrrd_text.specs.Forms.{IsOfForm, printed}
use Rattle.nrrd_text.proofs.pieces.gather_samples.Given as goal

abbrev pub invariant-loop-rest : goal.invariant-loop-rest
invariant-loop-rest g l = record {
  staged : HasStaged (g.K.Sink.seen l.fn.sink) (g.K.Sink.seen l.sink) (l.fn.waiting ++ flat_map (printed l.form) (map g.T.Packed.value l.values)) l.waiting (flat_map (printed l.form) (map g.T.Packed.value l.rest));
  form : All (IsOfForm l.form) (map g.T.Packed.value l.rest);
}

abbrev pub decreases-loop-rest : goal.decreases-loop-rest
decreases-loop-rest g l = length l.rest
