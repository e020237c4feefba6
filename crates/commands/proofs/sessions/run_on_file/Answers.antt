use Rattle.std.proofs.Common.{refl}
use Rattle.byte_streams.proofs.Taking.{reads_nothing}
use Rattle.commands.specs.Serving.{asked_for}
use Rattle.commands.proofs.Openings.{opened}
use Rattle.commands.proofs.sessions.run_on_file.Goals as goal

pub returns-in-Ok-run_session-clause-runs : goal.returns-in-Ok-run_session-clause-runs
returns-in-Ok-run_session-clause-runs g c =
    opened (asked_for c.args.level c.args.pad c.args.name.now c.args.capacity.bricks c.args.capacity.pages) _ _ c.in-Ok-run_session.ending c.in-Ok.store c.in-Ok-begin_over.bench c.run_session.new.bench _
    c.in-Ok.ensures.volume c.in-Ok-begin_over.ensures.opened c.in-Ok-begin_over.ensures.sound refl c.in-Ok.ensures.same c.in-Ok.ensures.later c.answer.ensures c.in-Ok-run_session.ensures.ends

pub returns-in-Err-clause-reading : goal.returns-in-Err-clause-reading
returns-in-Err-clause-reading g c = reads_nothing _ _
