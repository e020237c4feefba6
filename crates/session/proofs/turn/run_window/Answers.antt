use Rattle.session.proofs.Turns.{window_by}
use Rattle.session.proofs.turn.run_window.Goals as goal

pub returns : goal.returns
returns g c = λ steps. window_by _ steps _ _ c.args.corners c.args.format _ _ _ c.response_to_mesh.ensures c.window.ensures.window
