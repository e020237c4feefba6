use Rattle.std.proofs.Common.{◌*◌, min, Ok}
use Rattle.iso_base.specs.declared.kind.SampleKind.TheVariants.{U8}
use Rattle.byte_streams.specs.declared.Failed.{Failed}
use Rattle.byte_streams.specs.Seen.{Stages}
use Rattle.nrrd.specs.Writing.{samples_text}
use Rattle.volume_gen.specs.Generated.{row_samples}
use Rattle.volume_gen.proofs.rows.stage_row.Given as goal

-- the samples up to here are staged
abbrev pub invariant-loop-run : goal.invariant-loop-run
invariant-loop-run g l =
    Stages {T = Unit {0}} {E = Failed} (g.K.Sink.seen l.fn.sink) (g.K.Sink.seen l.sink) l.fn.waiting.items l.waiting.items (Ok tt) (samples_text U8 (row_samples l.seed l.y l.z (min (8 * l.run) l.nx)))
