use Rattle.std.proofs.Common.{List, ℕ, ◌∙◌, subst}
use Rattle.byte_streams.proofs.Taking.{reads_nothing}
use Rattle.command_terms.specs.Outcome.{Tells, unread_between}
use Rattle.point_command.proofs.run.give.Goals as goal

pub returns-in-Help-clause-gives : goal.returns-in-Help-clause-gives
returns-in-Help-clause-gives g c =
    rw c.in-Help.is (subst
    (λ (text : List ℕ). Tells text (unread_between (g.S.Source.seen c.args.input.now) g.K.Sink.seen c.args.output.now c.tell.new.output) c.tell.result)
    c.help_text.ensures (c.tell.ensures (g.S.Source.seen c.args.input.now)))

pub returns-in-Help-clause-reading : goal.returns-in-Help-clause-reading
returns-in-Help-clause-reading g c = reads_nothing _ _

pub returns-in-Version-clause-gives : goal.returns-in-Version-clause-gives
returns-in-Version-clause-gives g c =
    rw c.in-Version.is (subst
    (λ (text : List ℕ). Tells text (unread_between (g.S.Source.seen c.args.input.now) g.K.Sink.seen c.args.output.now c.tell-in-Version.new.output) c.tell-in-Version.result)
    (c.as_str.ensures.value ∙ c.version_text.ensures) (c.tell-in-Version.ensures (g.S.Source.seen c.args.input.now)))

pub returns-in-Version-clause-reading : goal.returns-in-Version-clause-reading
returns-in-Version-clause-reading g c = reads_nothing _ _
