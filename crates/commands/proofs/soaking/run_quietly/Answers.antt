use Rattle.std.proofs.Common.{◌∙◌, sym, refl}
use Rattle.session.specs.Responses.{response_text}
use Rattle.commands.proofs.Soaked.{quietly, wanted}
use Rattle.commands.proofs.Wanting.{want_by_response}
use Rattle.commands.proofs.soaking.run_quietly.Goals as goal

pub returns-then-says_want : goal.returns-then-says_want
returns-then-says_want g c = λ line e.
    wanted _ _ c.args.command.now line (response_text c.run_command-response.result) e c.run_command-response.ensures
    (want_by_response c.run_command-response.result ∙ sym c.says_want.ensures ∙ c.if-says_want.true) refl

pub returns : goal.returns
returns g c = λ line e.
    quietly _ _ c.args.command.now line (response_text c.run_command-response.result) c.asks_for_ply.result c.show.result e c.run_command-response.ensures
    (want_by_response c.run_command-response.result ∙ sym c.says_want.ensures ∙ c.if-says_want.false) c.asks_for_ply.ensures c.show.ensures
