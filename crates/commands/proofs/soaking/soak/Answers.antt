use Rattle.std.proofs.Common.{Some, refl}
use Rattle.command_terms.specs.Outcome.{unread_between}
use Rattle.commands.specs.Outcome.{call_with}
use Rattle.commands.proofs.Soaks.{opened_soak}
use Rattle.commands.proofs.soaking.soak.Goals as goal

pub returns : goal.returns
returns g c = λ input.
    opened_soak c.args.seed
    (call_with (unread_between input g.K.Sink.seen c.args.output.now c.run_lines-answer.new.output) g.H.Shelf.seen c.args.shelf.now c.run_lines-answer.new.shelf
    (Some c.run_lines-answer.new.bench) c.args.steps.now c.run_lines-answer.new.steps)
    c.run_lines-answer.result c.run_lines-answer.new.bench c.in-Ok.bench c.new.result refl refl c.in-Ok.ensures.opened c.in-Ok.ensures.sound c.new.ensures (c.run_lines-answer.ensures c.args.seed c.new.ensures)
