use Rattle.sample_rows.proofs.RowPlaces.{no_rows}
use Rattle.sample_rows.proofs.places.no_places.Goals as goal

pub returns : goal.returns
returns g c = no_rows c.args.field.now _ c.in_ok-with_capacity.ensures.items c.in_ok-with_capacity-2.ensures.items
