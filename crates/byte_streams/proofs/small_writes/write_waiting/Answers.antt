use Rattle.std.proofs.Common.{◌∙◌, refl}
use Rattle.std.proofs.lemmas.Result.{err_from_is_err_and}
use Rattle.byte_streams.proofs.Staging.{staged_all, staged_failed}
use Rattle.byte_streams.proofs.small_writes.write_waiting.Goals as goal

pub returns-in_err-write_all_of : goal.returns-in_err-write_all_of
returns-in_err-write_all_of g c =
    let p = err_from_is_err_and c.from_residual.result c.from_residual.ensures.1 in
    rw (p.1, ← c.deref.ensures.value) (staged_failed _ _ _ _ _ _ _ c.in_err-write_all_of.ensures)

pub returns : goal.returns
returns g c = rw (c.if-keep.ensures.not refl ∙ c.clear.ensures.items, ← c.deref.ensures.value) (staged_all _ _ _ _ _ _ _ c.in_ok-write_all_of.ensures c.write_all_of-2.ensures)
