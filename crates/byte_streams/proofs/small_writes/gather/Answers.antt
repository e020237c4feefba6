use Rattle.std.proofs.lemmas.Result.{err_from_is_err_and}
use Rattle.byte_streams.proofs.Staging.{staged_failed}
use Rattle.byte_streams.proofs.small_writes.gather.Goals as goal

pub returns-in_err-write_all_of : goal.returns-in_err-write_all_of
returns-in_err-write_all_of g c =
    let p = err_from_is_err_and c.from_residual.result c.from_residual.ensures.1 in
    rw (p.1, ← c.as_str.ensures.value, ← c.as_bytes.ensures.value) (staged_failed _ _ _ _ _ _ _ c.in_err-write_all_of.ensures)
