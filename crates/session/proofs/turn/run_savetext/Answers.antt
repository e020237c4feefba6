use Rattle.session.proofs.Turns.{savetext_by}
use Rattle.session.proofs.turn.run_savetext.Goals as goal

pub returns : goal.returns
returns g c = λ steps. savetext_by _ steps _ _ _ _ _ c.response_to_save.ensures c.save_text.ensures.never_memory c.save_text.ensures.file
