use Rattle.std.proofs.Common.{map, of_z, refl, w32}
use Rattle.iso_base.specs.declared.kind.SampleKind.TheVariants.{I32}
use Rattle.row_bits.proofs.Lanes.{lanes_from}
use Rattle.brick_rows.proofs.EightLanes.{at_most, kind_fits, lanes_long, narrowed, of_thirty_two, signed_are, signs_fit}
use Rattle.brick_rows.proofs.lanes.I32Lanes.signs_at.Goals as goal

pub overflow_cast-result : goal.overflow_cast-result
overflow_cast-result c =
    let run = c.args.run.now in
    signs_fit w32 (at_most w32) (of_z w32 c.args.bound) (map (of_z w32) (lanes_from 8 run c.args.at))
    (lanes_long w32 run c.args.at c.args.bound c.requires.room c.ranges.bound (kind_fits w32 I32 run of_thirty_two c.requires.fits))

pub returns : goal.returns
returns c =
    let run = c.args.run.now in
    narrowed _ _ (λ a. refl) (signed_are w32 run c.args.at c.args.bound c.requires.room c.ranges.bound (kind_fits w32 I32 run of_thirty_two c.requires.fits))
