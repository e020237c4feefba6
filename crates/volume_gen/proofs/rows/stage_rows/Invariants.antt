use Rattle.std.proofs.Common.{◌*◌, Ok}
use Rattle.iso_base.specs.declared.kind.SampleKind.TheVariants.{U8}
use Rattle.byte_streams.specs.declared.Failed.{Failed}
use Rattle.byte_streams.specs.Seen.{Stages}
use Rattle.nrrd.specs.Writing.{samples_text}
use Rattle.volume_gen.specs.Generated.{first_samples}
use Rattle.volume_gen.proofs.rows.stage_rows.Given as goal

-- the rows up to here are staged
abbrev pub invariant-loop-row : goal.invariant-loop-row
invariant-loop-row g l =
    Stages {T = Unit {0}} {E = Failed} (g.K.Sink.seen l.fn.sink) (g.K.Sink.seen l.sink) l.fn.waiting.items l.waiting.items (Ok tt) (samples_text U8 (first_samples l.seed l.sizes (l.sizes.nx * l.row)))
