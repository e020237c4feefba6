use Rattle.std.proofs.lemmas.Result.{err_from_is_err_and}
use Rattle.iso_base.specs.declared.kind.SampleKind.TheVariants.{U8}
use Rattle.iso_defs.specs.Grid.{point_count}
use Rattle.byte_streams.proofs.Putting.{puts_both, puts_first}
use Rattle.nrrd.specs.Writing.{samples_text}
use Rattle.volume_gen.specs.Generated.{first_samples}
use Rattle.volume_gen.proofs.rows.put_generated.Goals as goal

pub returns-in_err-put_nrrd_head : goal.returns-in_err-put_nrrd_head
returns-in_err-put_nrrd_head g c =
    let p = err_from_is_err_and c.from_residual.result c.from_residual.ensures.1 in
    rw p.1 (puts_first _ _ _ _ _ (samples_text U8 (first_samples c.args.seed c.args.sizes.now (point_count c.args.sizes.now))) c.in_err-put_nrrd_head.ensures)

pub returns : goal.returns
returns g c = puts_both _ _ _ _ _ _ (samples_text U8 (first_samples c.args.seed c.args.sizes.now (point_count c.args.sizes.now))) c.in_ok-put_nrrd_head.ensures c.put_rows.ensures
