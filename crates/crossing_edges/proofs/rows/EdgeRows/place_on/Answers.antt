use Rattle.std.proofs.Common.{◌≡◌, ◌+◌, ◌*◌, ◌/◌, ◌%◌, ◌<◌, ◌∙◌, ℤ, sym, subst, ap, ap₂, arith, to_z, of_z, w64}
use Rattle.std.proofs.lemmas.Int.{ints}
use Rattle.iso_defs.specs.Grid.{point_count, differ, is_above, is_crossing}
use Rattle.iso_defs.specs.Place.{place}
use Rattle.iso_base.specs.Volume.{IsSample, shifted}
use Rattle.crossing_edges.specs.Flags.{edge_place}
use Rattle.crossing_edges.specs.Leveled.{Leveled, heights}
use Rattle.crossing_edges.proofs.NextPoints.{Ends, ends, next_in, place_at}
use Rattle.crossing_edges.proofs.rows.EdgeRows.place_on.Goals as goal

-- a sample is read as it is
whole : (z : ℤ) → IsSample z → to_z w64 (of_z w64 z) ≡ z
whole z is = let low = is.low in let high = is.high in omega (arith, ints)

pub sample-requires-2 : goal.sample-requires-2
sample-requires-2 g c =
    let grid = c.args.self.now.grid in
    let s = heights c.args.self.now in
    let p = c.args.start + c.args.edge / 3 in
    let axis = c.args.edge % 3 in
    let name : 3 * p + axis ≡ 3 * c.args.start + c.args.edge = omega arith in
    let e : Ends grid s p axis = ends grid s p axis (omega arith) (ap (is_crossing grid s) name ∙ c.requires.crossing) in
    let within : p < point_count grid = omega (arith, c.requires.name) in
    record { point = subst (λ n. n < point_count grid) (sym (ap₂ (λ a b. c.args.start + a + b) c.from.ensures c.step.ensures.value)) (next_in grid p axis (omega arith) within e.next) }

pub sample_place-requires-clause-apart : goal.sample_place-requires-clause-apart
sample_place-requires-clause-apart g c =
    let grid = c.args.self.now.grid in
    let s = heights c.args.self.now in
    let same : c.self.inside.level ≡ c.args.self.now.level = ap (λ (v : Leveled). v.level) c.self.view_is in
    let p = c.args.start + c.args.edge / 3 in
    let axis = c.args.edge % 3 in
    let name : 3 * p + axis ≡ 3 * c.args.start + c.args.edge = omega arith in
    let e : Ends grid s p axis = ends grid s p axis (omega arith) (ap (is_crossing grid s) name ∙ c.requires.crossing) in
    let e1 : to_z w64 (of_z w64 c.sample.result) ≡ c.sample.result = whole c.sample.result c.sample.ensures.sample in
    let e2 : to_z w64 (of_z w64 c.sample-2.result) ≡ c.sample-2.result = whole c.sample-2.result c.sample-2.ensures.sample in
    let low = ap₂ shifted e1 same ∙ (c.sample.ensures.height ∙ ap (λ n. s (c.args.start + n)) c.from.ensures) in
    let high = ap₂ shifted e2 same ∙ (c.sample-2.ensures.height ∙ ap₂ (λ a b. s (c.args.start + a + b)) c.from.ensures c.step.ensures.value) in
    ap₂ (λ a b. differ (is_above a) (is_above b)) low high ∙ e.apart

pub returns : goal.returns
returns g c =
    let grid = c.args.self.now.grid in
    let s = heights c.args.self.now in
    let same : c.self.inside.level ≡ c.args.self.now.level = ap (λ (v : Leveled). v.level) c.self.view_is in
    let p = c.args.start + c.args.edge / 3 in
    let axis = c.args.edge % 3 in
    let name : 3 * p + axis ≡ 3 * c.args.start + c.args.edge = omega arith in
    let e : Ends grid s p axis = ends grid s p axis (omega arith) (ap (is_crossing grid s) name ∙ c.requires.crossing) in
    let e1 : to_z w64 (of_z w64 c.sample.result) ≡ c.sample.result = whole c.sample.result c.sample.ensures.sample in
    let e2 : to_z w64 (of_z w64 c.sample-2.result) ≡ c.sample-2.result = whole c.sample-2.result c.sample-2.ensures.sample in
    let low = ap₂ shifted e1 same ∙ (c.sample.ensures.height ∙ ap (λ n. s (c.args.start + n)) c.from.ensures) in
    let high = ap₂ shifted e2 same ∙ (c.sample-2.ensures.height ∙ ap₂ (λ a b. s (c.args.start + a + b)) c.from.ensures c.step.ensures.value) in
    c.sample_place.ensures.value ∙ (ap₂ place low high ∙ (sym (place_at grid s p axis (omega arith)) ∙ ap (edge_place grid s) name))
