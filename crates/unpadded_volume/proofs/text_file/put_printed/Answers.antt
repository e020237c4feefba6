use Rattle.std.proofs.Common.{◌≡◌, length, arith, length-append}
use Rattle.std.specs.Prelude.{flat_map}
use Rattle.std.proofs.lemmas.Result.{err_from_is_err_and}
use Rattle.iso_base.specs.Volume.{inner_grid}
use Rattle.byte_streams.proofs.Putting.{puts_first}
use Rattle.nrrd.specs.Writing.{coded_head_text, coded_line, rows_of}
use Rattle.unpadded_volume.specs.Unpadded.{inner_voxels, saved_in_print}
use Rattle.unpadded_volume.proofs.RowLines.{both_failed, both_put}
use Rattle.unpadded_volume.proofs.text_file.put_printed.Goals as goal

pub returns-in_err-put_coded_head-clause-text : goal.returns-in_err-put_coded_head-clause-text
unfolding saved_in_print
returns-in_err-put_coded_head-clause-text g c =
    let p = err_from_is_err_and c.from_residual.result c.from_residual.ensures.1 in
    rw p.1 (puts_first _ _ _ _ _ _ (rw (c.requires, c.kind-kind.ensures) at c.in_err-put_coded_head.ensures))

pub returns-in_err-bytes-clause-text : goal.returns-in_err-bytes-clause-text
unfolding saved_in_print
returns-in_err-bytes-clause-text g c =
    let p = err_from_is_err_and c.from_residual-in_err-bytes.result c.from_residual-in_err-bytes.ensures.1 in
    rw p.1 (both_failed _ _ _ _ _ _ _ _ (rw (c.requires, c.kind-kind.ensures) at c.in_ok-put_coded_head.ensures) c.in_err-bytes.ensures.lines)

pub returns-clause-text : goal.returns-clause-text
unfolding saved_in_print
returns-clause-text g c =
    both_put _ _ _ _ _ _ _ _ (rw (c.requires, c.kind-kind.ensures) at c.in_ok-put_coded_head.ensures) c.in_ok-bytes.ensures.lines

pub returns-clause-bytes : goal.returns-clause-bytes
unfolding saved_in_print
returns-clause-bytes g c =
    let v = c.args.store.now in
    let head : c.coded_head_bytes.result ≡ length (coded_head_text (inner_grid v) v.kind c.args.hex) = rw (c.requires, c.kind-kind.ensures) at c.coded_head_bytes.ensures.bytes in
    omega (arith, head, c.in_ok-bytes.ensures.bytes, length-append (coded_head_text (inner_grid v) v.kind c.args.hex) (flat_map (coded_line c.args.hex v.kind) (rows_of (inner_voxels v))))
