use Rattle.std.proofs.Common.{List, ℕ, ◌∙◌, refl, subst}
use Rattle.command_terms.specs.Outcome.{Tells, unread_between}
use Rattle.commands.proofs.command_line.carry_out.Goals as goal

pub returns-in-Gen-clause-serves : goal.returns-in-Gen-clause-serves
returns-in-Gen-clause-serves g c = rw c.in-Gen.is ((c.generate.ensures (g.S.Source.seen c.args.input.now), refl), record { same = refl; none = c.requires.left; steps = refl })

pub returns-in-Gen-clause-reading : goal.returns-in-Gen-clause-reading
returns-in-Gen-clause-reading g c = rw c.in-Gen.is refl

pub returns-in-Soak-clause-reading : goal.returns-in-Soak-clause-reading
returns-in-Soak-clause-reading g c = rw c.in-Soak.is refl

pub returns-in-Help-clause-serves : goal.returns-in-Help-clause-serves
returns-in-Help-clause-serves g c =
    rw c.in-Help.is (
      subst
          (λ (text : List ℕ). Tells text (unread_between (g.S.Source.seen c.args.input.now) g.K.Sink.seen c.args.output.now c.tell.new.output) c.tell.result)
          c.help_text.ensures (c.tell.ensures (g.S.Source.seen c.args.input.now)),
      record { same = refl; none = c.requires.left; steps = refl },
    )

pub returns-in-Help-clause-reading : goal.returns-in-Help-clause-reading
returns-in-Help-clause-reading g c = rw c.in-Help.is refl

pub returns-in-Version-clause-serves : goal.returns-in-Version-clause-serves
returns-in-Version-clause-serves g c =
    rw c.in-Version.is (
      subst
          (λ (text : List ℕ). Tells text (unread_between (g.S.Source.seen c.args.input.now) g.K.Sink.seen c.args.output.now c.tell-in-Version.new.output) c.tell-in-Version.result)
          (c.as_str-in-Version.ensures.value ∙ c.version_text.ensures) (c.tell-in-Version.ensures (g.S.Source.seen c.args.input.now)),
      record { same = refl; none = c.requires.left; steps = refl },
    )

pub returns-in-Version-clause-reading : goal.returns-in-Version-clause-reading
returns-in-Version-clause-reading g c = rw c.in-Version.is refl
