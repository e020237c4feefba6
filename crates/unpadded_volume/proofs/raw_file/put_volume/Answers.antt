use Rattle.std.proofs.lemmas.Result.{err_from_is_err_and}
use Rattle.byte_streams.proofs.Putting.{puts_both, puts_first}
use Rattle.unpadded_volume.specs.Unpadded.{saved_text}
use Rattle.unpadded_volume.proofs.raw_file.put_volume.Goals as goal

pub returns-in_err-put_nrrd_head : goal.returns-in_err-put_nrrd_head
unfolding saved_text
returns-in_err-put_nrrd_head g c =
    let p = err_from_is_err_and c.from_residual.result c.from_residual.ensures.1 in
    rw p.1 (puts_first _ _ _ _ _ _ (rw (c.requires, c.kind.ensures) at c.in_err-put_nrrd_head.ensures))

pub returns : goal.returns
unfolding saved_text
returns g c = puts_both _ _ _ _ _ _ _ (rw (c.requires, c.kind.ensures) at c.in_ok-put_nrrd_head.ensures) c.put_inner_samples.ensures
