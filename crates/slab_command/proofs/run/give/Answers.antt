use Rattle.std.proofs.Common.{List, ℕ, ◌∙◌, subst}
use Rattle.byte_streams.proofs.Taking.{reads_nothing}
use Rattle.slab_command.specs.Outcome.{unread_call}
use Rattle.slab_command.specs.Running.{TellsText}
use Rattle.slab_command.proofs.run.give.Goals as goal

pub returns-in-Slab-clause-gives : goal.returns-in-Slab-clause-gives
returns-in-Slab-clause-gives g c = rw c.in-Slab.is c.serve_slab.ensures.serves

pub returns-in-Head-clause-gives : goal.returns-in-Head-clause-gives
returns-in-Head-clause-gives g c =
    rw c.in-Head.is (subst
    (λ (text : List ℕ). TellsText text (unread_call (g.S.Source.seen c.args.input.now) (g.H.Shelf.seen c.args.shelf.now) g.K.Sink.seen c.args.output.now c.tell_text.new.output) c.tell_text.result)
    (c.as_str.ensures.value ∙ c.ply_head_text.ensures) (c.tell_text.ensures (g.S.Source.seen c.args.input.now) (g.H.Shelf.seen c.args.shelf.now)))

pub returns-in-Head-clause-reading : goal.returns-in-Head-clause-reading
returns-in-Head-clause-reading g c = reads_nothing _ _

pub returns-in-Help-clause-gives : goal.returns-in-Help-clause-gives
returns-in-Help-clause-gives g c =
    rw c.in-Help.is (subst
    (λ (text : List ℕ). TellsText text (unread_call (g.S.Source.seen c.args.input.now) (g.H.Shelf.seen c.args.shelf.now) g.K.Sink.seen c.args.output.now c.tell_text-in-Help.new.output) c.tell_text-in-Help.result)
    c.help_text.ensures (c.tell_text-in-Help.ensures (g.S.Source.seen c.args.input.now) (g.H.Shelf.seen c.args.shelf.now)))

pub returns-in-Help-clause-reading : goal.returns-in-Help-clause-reading
returns-in-Help-clause-reading g c = reads_nothing _ _

pub returns-in-Version-clause-gives : goal.returns-in-Version-clause-gives
returns-in-Version-clause-gives g c =
    rw c.in-Version.is (subst
    (λ (text : List ℕ). TellsText text (unread_call (g.S.Source.seen c.args.input.now) (g.H.Shelf.seen c.args.shelf.now) g.K.Sink.seen c.args.output.now c.tell_text-in-Version.new.output) c.tell_text-in-Version.result)
    (c.as_str-in-Version.ensures.value ∙ c.version_text.ensures) (c.tell_text-in-Version.ensures (g.S.Source.seen c.args.input.now) (g.H.Shelf.seen c.args.shelf.now)))

pub returns-in-Version-clause-reading : goal.returns-in-Version-clause-reading
returns-in-Version-clause-reading g c = reads_nothing _ _
