use Rattle.std.proofs.Common.{◌∙◌, ◌+◌, ap, ap₂, refl, subst}
use Rattle.iso_defs.specs.Place.{place}
use Rattle.iso_defs.specs.Grid.{differ, is_above}
use Rattle.flat_mesh.specs.Lattice.{IsLeveled}
use Rattle.sample_rows.proofs.PointEnds.{apart, end_there, lower_at, read_height, upper_at}
use Rattle.sample_rows.proofs.field.ListField.place_between.Goals as goal

pub at_point-requires-2-clause-point : goal.at_point-requires-2-clause-point
at_point-requires-2-clause-point g c =
    let v = c.args.self.now in
    end_there v _ c.self.view_is _ _
    (upper_at v c.args.y c.args.z c.args.edge c.requires.y c.requires.z c.requires.edge c.requires.crossing _
    (ap₂ ◌+◌ c.from-x.ensures c.from.ensures) (ap (λ n. c.args.y + n) c.from-2.ensures) (ap (λ n. c.args.z + n) c.from-3.ensures))

pub sample_place-requires-clause-apart : goal.sample_place-requires-clause-apart
sample_place-requires-clause-apart g c =
    let v = c.args.self.now in
    let leveled = subst IsLeveled c.self.view_is c.self.invariant in
    let lower = lower_at v c.args.y c.args.z c.args.edge c.requires.y c.requires.z c.requires.edge c.requires.crossing _ c.from-x.ensures refl refl in
    let upper = upper_at v c.args.y c.args.z c.args.edge c.requires.y c.requires.z c.requires.edge c.requires.crossing _
    (ap₂ ◌+◌ c.from-x.ensures c.from.ensures) (ap (λ n. c.args.y + n) c.from-2.ensures) (ap (λ n. c.args.z + n) c.from-3.ensures) in
    let low = read_height v _ c.self.view_is _ _ lower leveled c.at_point.result c.at_point.ensures in
    let high = read_height v _ c.self.view_is _ _ upper leveled c.at_point-2.result c.at_point-2.ensures in
    ap₂ (λ a b. differ (is_above a) (is_above b)) low high
    ∙ apart v c.args.y c.args.z c.args.edge c.requires.y c.requires.z c.requires.edge c.requires.crossing

pub returns : goal.returns
returns g c =
    let v = c.args.self.now in
    let leveled = subst IsLeveled c.self.view_is c.self.invariant in
    let lower = lower_at v c.args.y c.args.z c.args.edge c.requires.y c.requires.z c.requires.edge c.requires.crossing _ c.from-x.ensures refl refl in
    let upper = upper_at v c.args.y c.args.z c.args.edge c.requires.y c.requires.z c.requires.edge c.requires.crossing _
    (ap₂ ◌+◌ c.from-x.ensures c.from.ensures) (ap (λ n. c.args.y + n) c.from-2.ensures) (ap (λ n. c.args.z + n) c.from-3.ensures) in
    let low = read_height v _ c.self.view_is _ _ lower leveled c.at_point.result c.at_point.ensures in
    let high = read_height v _ c.self.view_is _ _ upper leveled c.at_point-2.result c.at_point-2.ensures in
    c.sample_place.ensures.value ∙ ap₂ place low high
