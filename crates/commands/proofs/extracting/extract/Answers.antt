use Rattle.std.proofs.Common.{refl}
use Rattle.commands.specs.Headline.{mesh_given}
use Rattle.command_terms.specs.Outcome.{streams_between}
use Rattle.commands.proofs.Written.{converts, not_held, not_held_done, shows}
use Rattle.commands.proofs.extracting.extract.Goals as goal

pub returns-in-Ok-clause-converts : goal.returns-in-Ok-clause-converts
returns-in-Ok-clause-converts g c =
    converts (mesh_given c.args.level c.args.pad c.args.format)
    (streams_between g.S.Source.seen g.K.Sink.seen c.args.input.now c.bytes_of_input.new.input c.args.output.now c.extract_bytes.new.output)
    c.in-Ok.bytes.items c.extract_bytes.result (record { all = c.in-Ok.ensures.all; within = c.in-Ok.ensures.within }) c.extract_bytes.ensures.text

pub returns-in-Ok-clause-shows : goal.returns-in-Ok-clause-shows
returns-in-Ok-clause-shows g c =
    shows c.args.level c.args.pad c.args.format
    (streams_between g.S.Source.seen g.K.Sink.seen c.args.input.now c.bytes_of_input.new.input c.args.output.now c.extract_bytes.new.output)
    c.in-Ok.bytes.items c.extract_bytes.result (record { all = c.in-Ok.ensures.all; within = c.in-Ok.ensures.within }) c.extract_bytes.ensures.text
    c.extract_bytes.ensures.surface

pub returns-in-Err-clause-converts : goal.returns-in-Err-clause-converts
returns-in-Err-clause-converts g c =
    not_held c.args.level c.args.pad c.args.format
    (streams_between g.S.Source.seen g.K.Sink.seen c.args.input.now c.bytes_of_input.new.input c.args.output.now c.args.output.now) c.in-Err.answer refl
    (c.in-Err.ensures.fault c.args.pad c.args.level)

pub returns-in-Err-clause-shows : goal.returns-in-Err-clause-shows
returns-in-Err-clause-shows g c done =
    absurd (not_held_done c.args.level c.args.pad
    (streams_between g.S.Source.seen g.K.Sink.seen c.args.input.now c.bytes_of_input.new.input c.args.output.now c.args.output.now) c.in-Err.answer
    (c.in-Err.ensures.fault c.args.pad c.args.level) done)
