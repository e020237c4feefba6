use Rattle.std.proofs.lemmas.Result.{err_from_is_err_and}
use Rattle.byte_streams.proofs.Staging.{stages_first}
use Rattle.point_command.proofs.Waiting.{line_behind}
use Rattle.point_command.proofs.texts.write_edge.Goals as goal

pub returns-in_err-reserve : goal.returns-in_err-reserve
returns-in_err-reserve g c =
    let p = err_from_is_err_and c.from_residual.result c.from_residual.ensures.1 in
    rw p.1 (stages_first _ _ _ _ _ _ _ _ _ c.in_err-reserve.ensures.put.staged)

pub returns : goal.returns
returns g c = line_behind _ _ _ _ _ _ _ _ c.in_ok-reserve.ensures.put.staged c.push_edge.ensures.put.waiting
