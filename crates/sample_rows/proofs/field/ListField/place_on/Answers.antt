use Rattle.std.proofs.Common.{◌∙◌, refl, ap₂, subst}
use Rattle.iso_defs.specs.Place.{place}
use Rattle.iso_defs.specs.Grid.{differ, is_above}
use Rattle.flat_mesh.specs.Lattice.{IsLeveled}
use Rattle.sample_rows.proofs.Ends.{end_height, end_sample, ends_of}
use Rattle.sample_rows.proofs.field.ListField.place_on.Goals as goal

pub bounds-ends-x-2 : goal.bounds-ends-x-2
bounds-ends-x-2 g c =
    let v = c.args.self.now in
    (ends_of v _ c.args.y c.args.z c.args.edge c.args.ends.now c.self.view_is c.requires.ends c.requires.y c.requires.z c.requires.edge c.requires.crossing
    _ _ _ _ c.from-x.ensures c.nx-nx.ensures.value c.from-axis.ensures c.from.ensures).upper.low

pub sample_place-requires-clause-low : goal.sample_place-requires-clause-low
sample_place-requires-clause-low g c =
    let v = c.args.self.now in
    let ends = ends_of v _ c.args.y c.args.z c.args.edge c.args.ends.now c.self.view_is c.requires.ends c.requires.y c.requires.z c.requires.edge c.requires.crossing
    _ _ _ _ c.from-x.ensures c.nx-nx.ensures.value c.from-axis.ensures c.from.ensures in
    end_sample v (subst IsLeveled c.self.view_is c.self.invariant) c.args.ends.now _ _ ends.lower

pub sample_place-requires-clause-high : goal.sample_place-requires-clause-high
sample_place-requires-clause-high g c =
    let v = c.args.self.now in
    let ends = ends_of v _ c.args.y c.args.z c.args.edge c.args.ends.now c.self.view_is c.requires.ends c.requires.y c.requires.z c.requires.edge c.requires.crossing
    _ _ _ _ c.from-x.ensures c.nx-nx.ensures.value c.from-axis.ensures c.from.ensures in
    end_sample v (subst IsLeveled c.self.view_is c.self.invariant) c.args.ends.now _ _ ends.upper

pub sample_place-requires-clause-apart : goal.sample_place-requires-clause-apart
sample_place-requires-clause-apart g c =
    let v = c.args.self.now in
    let leveled = subst IsLeveled c.self.view_is c.self.invariant in
    let ends = ends_of v _ c.args.y c.args.z c.args.edge c.args.ends.now c.self.view_is c.requires.ends c.requires.y c.requires.z c.requires.edge c.requires.crossing
    _ _ _ _ c.from-x.ensures c.nx-nx.ensures.value c.from-axis.ensures c.from.ensures in
    let low = end_height v leveled c.args.ends.now _ _ ends.lower _ _ c.self.view_is refl in
    let high = end_height v leveled c.args.ends.now _ _ ends.upper _ _ c.self.view_is refl in
    ap₂ (λ a b. differ (is_above a) (is_above b)) low high ∙ ends.apart

pub returns : goal.returns
returns g c =
    let v = c.args.self.now in
    let leveled = subst IsLeveled c.self.view_is c.self.invariant in
    let ends = ends_of v _ c.args.y c.args.z c.args.edge c.args.ends.now c.self.view_is c.requires.ends c.requires.y c.requires.z c.requires.edge c.requires.crossing
    _ _ _ _ c.from-x.ensures c.nx-nx.ensures.value c.from-axis.ensures c.from.ensures in
    let low = end_height v leveled c.args.ends.now _ _ ends.lower _ _ c.self.view_is refl in
    let high = end_height v leveled c.args.ends.now _ _ ends.upper _ _ c.self.view_is refl in
    c.sample_place.ensures.value ∙ ap₂ place low high
