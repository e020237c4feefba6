use Rattle.std.proofs.Common.{◌≡◌, ◌∙◌, rules, ℤ, List, map, w64, to_z, of_z, ap, ap₂, refl, subst, sym, arith}
use Rattle.std.proofs.lemmas.Int.{to_z-of_z}
use Rattle.std.proofs.lemmas.List.{length-map}
use Rattle.iso_defs.specs.Place.{place}
use Rattle.iso_defs.specs.Grid.{differ}
use Rattle.iso_base.specs.Volume.{IsSample, is_above_level, shifted}
use Rattle.brick_rows.proofs.EdgeEnds.{ends_of}
use Rattle.brick_rows.proofs.Places.{few_bricks}
use Rattle.brick_rows.proofs.crossings.place_of.Goals as goal

pub overflow_add-high : goal.overflow_add-high
overflow_add-high g c =
    let v = c.args.field.now in
    let list : List ℤ = map g.T.Packed.value c.args.copies.now in
    let is = c.sizes.ensures.leveled in
    let e = ends_of v is c.args.row c.requires.row list c.requires.copies c.args.start c.args.last c.args.edge c.from-x.result c.min-brick.result _ _ c.requires.start c.requires.last
    c.requires.edge c.requires.crossing c.from-x.ensures c.min-brick.ensures refl refl in
    omega (arith, e.high_inside, c.requires.copies.count, few_bricks v.grid is.grid)

pub sample_at-requires : goal.sample_at-requires
sample_at-requires g c =
    let v = c.args.field.now in
    let list : List ℤ = map g.T.Packed.value c.args.copies.now in
    let is = c.sizes.ensures.leveled in
    let e = ends_of v is c.args.row c.requires.row list c.requires.copies c.args.start c.args.last c.args.edge c.from-x.result c.min-brick.result _ _ c.requires.start c.requires.last
    c.requires.edge c.requires.crossing c.from-x.ensures c.min-brick.ensures refl refl in
    omega (arith, e.low_inside, length-map c.args.copies.now g.T.Packed.value)

pub sample_at-requires-2 : goal.sample_at-requires-2
sample_at-requires-2 g c =
    let v = c.args.field.now in
    let list : List ℤ = map g.T.Packed.value c.args.copies.now in
    let is = c.sizes.ensures.leveled in
    let e = ends_of v is c.args.row c.requires.row list c.requires.copies c.args.start c.args.last c.args.edge c.from-x.result c.min-brick.result _ _ c.requires.start c.requires.last
    c.requires.edge c.requires.crossing c.from-x.ensures c.min-brick.ensures refl refl in
    omega (arith, e.high_inside, length-map c.args.copies.now g.T.Packed.value)

pub sample_place-requires-clause-low : goal.sample_place-requires-clause-low
sample_place-requires-clause-low g c =
    let v = c.args.field.now in
    let list : List ℤ = map g.T.Packed.value c.args.copies.now in
    let is = c.sizes.ensures.leveled in
    let e = ends_of v is c.args.row c.requires.row list c.requires.copies c.args.start c.args.last c.args.edge c.from-x.result c.min-brick.result _ _ c.requires.start c.requires.last
    c.requires.edge c.requires.crossing c.from-x.ensures c.min-brick.ensures refl refl in
    let low : to_z w64 (of_z w64 c.sample_at.result) ≡ c.sample_at.result = search (rules, to_z-of_z) in
    subst IsSample (sym (low ∙ c.sample_at.ensures)) e.low_range

pub sample_place-requires-clause-high : goal.sample_place-requires-clause-high
sample_place-requires-clause-high g c =
    let v = c.args.field.now in
    let list : List ℤ = map g.T.Packed.value c.args.copies.now in
    let is = c.sizes.ensures.leveled in
    let e = ends_of v is c.args.row c.requires.row list c.requires.copies c.args.start c.args.last c.args.edge c.from-x.result c.min-brick.result _ _ c.requires.start c.requires.last
    c.requires.edge c.requires.crossing c.from-x.ensures c.min-brick.ensures refl refl in
    let high : to_z w64 (of_z w64 c.sample_at-2.result) ≡ c.sample_at-2.result = search (rules, to_z-of_z) in
    subst IsSample (sym (high ∙ c.sample_at-2.ensures)) e.high_range

pub sample_place-requires-clause-apart : goal.sample_place-requires-clause-apart
sample_place-requires-clause-apart g c =
    let v = c.args.field.now in
    let list : List ℤ = map g.T.Packed.value c.args.copies.now in
    let is = c.sizes.ensures.leveled in
    let e = ends_of v is c.args.row c.requires.row list c.requires.copies c.args.start c.args.last c.args.edge c.from-x.result c.min-brick.result _ _ c.requires.start c.requires.last
    c.requires.edge c.requires.crossing c.from-x.ensures c.min-brick.ensures refl refl in
    let low : to_z w64 (of_z w64 c.sample_at.result) ≡ c.sample_at.result = search (rules, to_z-of_z) in
    let high : to_z w64 (of_z w64 c.sample_at-2.result) ≡ c.sample_at-2.result = search (rules, to_z-of_z) in
    ap (λ (l : ℤ). differ (is_above_level (to_z w64 (of_z w64 c.sample_at.result)) l) (is_above_level (to_z w64 (of_z w64 c.sample_at-2.result)) l)) c.level.ensures
    ∙ (ap₂ (λ (a b : ℤ). differ (is_above_level a v.level) (is_above_level b v.level)) (low ∙ c.sample_at.ensures) (high ∙ c.sample_at-2.ensures) ∙ e.apart)

pub returns : goal.returns
returns g c =
    let v = c.args.field.now in
    let list : List ℤ = map g.T.Packed.value c.args.copies.now in
    let is = c.sizes.ensures.leveled in
    let e = ends_of v is c.args.row c.requires.row list c.requires.copies c.args.start c.args.last c.args.edge c.from-x.result c.min-brick.result _ _ c.requires.start c.requires.last
    c.requires.edge c.requires.crossing c.from-x.ensures c.min-brick.ensures refl refl in
    let low : to_z w64 (of_z w64 c.sample_at.result) ≡ c.sample_at.result = search (rules, to_z-of_z) in
    let high : to_z w64 (of_z w64 c.sample_at-2.result) ≡ c.sample_at-2.result = search (rules, to_z-of_z) in
    c.sample_place.ensures.value
    ∙ (ap (λ (l : ℤ). place (shifted (to_z w64 (of_z w64 c.sample_at.result)) l) (shifted (to_z w64 (of_z w64 c.sample_at-2.result)) l)) c.level.ensures
    ∙ ap₂ (λ (a b : ℤ). place (shifted a v.level) (shifted b v.level)) (low ∙ c.sample_at.ensures) (high ∙ c.sample_at-2.ensures) ∙ e.place_is)
