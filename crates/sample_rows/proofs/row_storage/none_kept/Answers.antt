use Rattle.std.proofs.Common.{refl}
use Rattle.sample_rows.proofs.StoredRows.{nothing_kept}
use Rattle.sample_rows.proofs.row_storage.none_kept.Goals as goal

pub returns : goal.returns
returns g c =
    nothing_kept c.args.field.now (record { rows = c.in_ok-no_rows.field-0; counts = record { centres = 0; faces = 0 }; places = c.in_ok-no_places.field-0 })
    c.in_ok-no_rows.ensures refl refl c.in_ok-no_places.ensures
