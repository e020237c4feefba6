use Rattle.std.proofs.lemmas.Result.{err_from_is_err_and}
use Rattle.byte_streams.proofs.Staging.{staged_failed}
use Rattle.mesh_lines.proofs.line_buffer.LineBuffer.write_middle.Goals as goal

pub returns-in_err-write_waiting-in-Vtk-clause-put : goal.returns-in_err-write_waiting-in-Vtk-clause-put
returns-in_err-write_waiting-in-Vtk-clause-put g c =
    let p = err_from_is_err_and c.from_residual.result c.from_residual.ensures.1 in
    rw p.1 (record { staged = staged_failed _ _ _ _ _ _ _ c.in_err-write_waiting-in-Vtk.ensures.text; total = tt })
