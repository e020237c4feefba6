use Rattle.std.proofs.Common.{Result, subst}
use Rattle.byte_streams.specs.declared.Failed.{Failed}
use Rattle.point_command.specs.Texts.{text_of}
use Rattle.point_command.specs.Points.{HoldsPoints}
use Rattle.point_command.proofs.FilePoints.{gives_text}
use Rattle.point_command.proofs.crossings.points.Goals as goal

pub returns-in-Ok-Ok-clause-converts : goal.returns-in-Ok-Ok-clause-converts
returns-in-Ok-Ok-clause-converts g c =
    let new = c.put_points_of_input.new in
    let has = subst (λ (w : Result (Unit {0}) Failed). HoldsPoints c.args.level (g.S.Source.seen c.args.input.now) (g.S.Source.seen new.input) (g.K.Sink.seen c.args.output.now) (g.K.Sink.seen new.output) w) c.in-Ok-Ok.field-0-is c.in-Ok-Ok.ensures.text in
    let puts = has.puts.2 in (
      has.bytes,
      text_of has.puts.0.0 c.args.level,
      has.read,
      gives_text has.bytes c.args.level has.puts.0 has.puts.1,
      record { gained = puts.gained; beside = puts.beside },
    )

pub returns-in-Ok-Err-clause-converts : goal.returns-in-Ok-Err-clause-converts
returns-in-Ok-Err-clause-converts g c =
    let new = c.put_points_of_input.new in
    let has = subst (λ (w : Result (Unit {0}) Failed). HoldsPoints c.args.level (g.S.Source.seen c.args.input.now) (g.S.Source.seen new.input) (g.K.Sink.seen c.args.output.now) (g.K.Sink.seen new.output) w) c.in-Ok-Err.field-0-is c.in-Ok-Err.ensures.text in
    let puts = has.puts.2 in (
      has.bytes,
      text_of has.puts.0.0 c.args.level,
      has.read,
      gives_text has.bytes c.args.level has.puts.0 has.puts.1,
      record { cause = puts.cause.failed; gained = puts.gained; beside = puts.beside },
    )
