use Rattle.std.proofs.Common.{refl}
use Rattle.sample_rows.proofs.StoredRows.{still_kept}
use Rattle.sample_rows.proofs.row_storage.add_quiet.Goals as goal

pub returns : goal.returns
returns g c =
    still_kept c.args.field.now c.args.y c.args.z (record { rows = c.add_still.new.rows; counts = c.args.kept.now.counts; places = c.add_none.new.places })
    c.in_ok-add_still.ensures c.in_ok-add_none.ensures c.args.kept.now c.requires.y c.requires.z c.requires.kept refl c.requires.none
