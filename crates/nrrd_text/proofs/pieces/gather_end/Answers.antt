use Rattle.std.proofs.lemmas.Result.{err_from_is_err_and}
use Rattle.byte_streams.proofs.Staging.{stages_first}
use Rattle.nrrd_text.proofs.pieces.gather_end.Goals as goal

pub returns-in_err-make_room : goal.returns-in_err-make_room
returns-in_err-make_room g c =
    let p = err_from_is_err_and c.from_residual.result c.from_residual.ensures.1 in
    rw p.1 (stages_first _ _ _ _ _ _ _ _ _ c.in_err-make_room.ensures.staged)
