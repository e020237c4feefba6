use Rattle.std.proofs.Common.{[], arith}
use Rattle.sample_rows.proofs.RowPlaces.{before_row, row_kept, still_none}
use Rattle.sample_rows.proofs.places.add_none.Goals as goal

pub keep_row-requires : goal.keep_row-requires
keep_row-requires g c =
    omega (arith, before_row c.args.field.now c.args.places.now c.args.y c.args.z c.requires.y c.requires.z c.requires.places, c.sizes.ensures.leveled.grid.count)

pub returns : goal.returns
returns g c =
    row_kept c.args.field.now c.args.y c.args.z c.args.places.now c.keep_row.new.places [] c.requires.places (still_none c.args.field.now c.args.y c.args.z c.requires.still)
    c.in_ok-keep_row.ensures.list c.in_ok-keep_row.ensures.starts
