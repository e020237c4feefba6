use Rattle.std.proofs.lemmas.Result.{err_from_is_err_and}
use Rattle.byte_streams.proofs.Staging.{stages_not_put, stages_unwritten, stages_written}
use Rattle.mesh_walk.proofs.PartTexts.{staged_from_nothing}
use Rattle.mesh_walk.proofs.parts.write_part_faces.Goals as goal

pub returns-in_err-write_faces-clause-text : goal.returns-in_err-write_faces-clause-text
returns-in_err-write_faces-clause-text g c =
    let staged = staged_from_nothing _ _ _ _ _ _ c.new-block.ensures c.in_err-write_faces.ensures.adds in
    let p = err_from_is_err_and c.from_residual.result c.from_residual.ensures.1 in
    rw p.1 (stages_not_put _ _ _ _ _ _ staged)

pub returns-in_err-write_waiting-clause-text : goal.returns-in_err-write_waiting-clause-text
returns-in_err-write_waiting-clause-text g c =
    let staged = staged_from_nothing _ _ _ _ _ _ c.new-block.ensures c.in_ok-write_faces.ensures.adds in
    let p = err_from_is_err_and c.from_residual-in_err-write_waiting.result c.from_residual-in_err-write_waiting.ensures.1 in
    rw p.1 (stages_unwritten _ _ _ _ _ _ _ _ staged c.in_err-write_waiting.ensures.text)

pub returns-clause-text : goal.returns-clause-text
returns-clause-text g c =
    let staged = staged_from_nothing _ _ _ _ _ _ c.new-block.ensures c.in_ok-write_faces.ensures.adds in
    stages_written _ _ _ _ _ _ _ staged c.in_ok-write_waiting.ensures.text
