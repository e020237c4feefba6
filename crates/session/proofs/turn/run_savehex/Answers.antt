use Rattle.session.proofs.Turns.{savehex_by}
use Rattle.session.proofs.turn.run_savehex.Goals as goal

pub returns : goal.returns
returns g c = λ steps. savehex_by _ steps _ _ _ _ _ c.response_to_save.ensures c.save_hex.ensures.never_memory c.save_hex.ensures.file
