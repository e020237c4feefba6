use Rattle.std.proofs.Common.{arith}
use Rattle.sample_rows.proofs.RowPlaces.{before_row, row_kept}
use Rattle.sample_rows.proofs.places.add_row.Goals as goal

pub keep_row-requires : goal.keep_row-requires
keep_row-requires g c =
    omega (arith, before_row c.args.field.now c.args.places.now c.args.y c.args.z c.requires.y c.requires.z c.requires.places, c.sizes.ensures.leveled.grid.count)

pub returns-clause-places : goal.returns-clause-places
returns-clause-places g c =
    row_kept c.args.field.now c.args.y c.args.z c.args.places.now c.keep_row.new.places _ c.requires.places c.fill_crossings-count.ensures.places
    c.in_ok-keep_row.ensures.list c.in_ok-keep_row.ensures.starts
