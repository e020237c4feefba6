use Rattle.std.proofs.lemmas.Result.{err_from_is_err_and}
use Rattle.unpadded_volume.proofs.RowLines.{rows_unwritten}
use Rattle.unpadded_volume.proofs.text_file.put_packed.Goals as goal

pub returns-in_err-write_all_of-clause-lines : goal.returns-in_err-write_all_of-clause-lines
returns-in_err-write_all_of-clause-lines g c =
    let p = err_from_is_err_and c.from_residual-in_err-write_all_of.result c.from_residual-in_err-write_all_of.ensures.1 in
    rw p.1 (rows_unwritten _ _ _ _ _ _ _ _ _ _ c.new-waiting.ensures c.as_bytes.ensures c.in_ok-bytes.ensures.lines c.in_err-write_all_of.ensures)
