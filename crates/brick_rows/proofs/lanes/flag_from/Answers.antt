use Rattle.std.proofs.Common.{map, arith}
use Rattle.std.proofs.lemmas.List.{length-map}
use Rattle.brick_rows.proofs.EightLanes.{flags_are}
use Rattle.brick_rows.proofs.lanes.flag_from.Goals as goal

pub returns : goal.returns
returns g c =
    let value = g.T.Packed.value in
    flags_are (value c.args.bound) (map value c.args.here.now) (map value c.args.up.now) (map value c.args.far.now) _ _ _ _ _ _ _ c.args.out.now
    (omega (arith, length-map c.args.here.now value)) c.requires.out c.signs_at-signs.ensures c.signs_at.ensures c.signs_at-2.ensures c.signs_at-3.ensures
    c.where_apart-right.ensures c.where_apart-up.ensures c.where_apart-far.ensures
