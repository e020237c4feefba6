use Rattle.std.proofs.Common.{◌≡◌, ◌∙◌, ℕ, ◌+◌, ◌+ℤ◌, ◌<◌, length, get_or, ap, sym, subst, arith}
use Rattle.std.proofs.lemmas.List.{get_or_default}
use Rattle.component_walk.specs.Begun.{AreAdded}
use Rattle.component_walk.proofs.AddedLaws.{added_more, added_none, added_past, crossings_fit, tallies_fit}
use Rattle.component_walk.proofs.components.add_all.Goals as goal
use Rattle.component_walk.proofs.components.add_all.Goals.{then-place-components, else-place-components}

pub loop-label-init : goal.loop-label-init
loop-label-init g c =
    added_none g.T.Tally.value g.T.Tally.fits (λ a. get_or c.args.places.now (get_or c.args.joined.now a 0) 0) c.args.crossings.now c.args.tallies.now c.args.components.now c.requires.empty

pub add-requires-clause-few : goal.add-requires-clause-few
add-requires-clause-few g c =
    crossings_fit g.T.Tally.value g.T.Tally.fits (λ a. get_or c.args.places.now (get_or c.args.joined.now a 0) 0) c.args.crossings.now c.args.tallies.now c.args.components.now c.loop-label.label c.loop-label.components
    c.loop-label.invariant (length c.args.joined.now) c.index-components-place.result c.loop-label-test.true c.if-place-components.true c.requires.few_edges

pub add-requires-clause-room : goal.add-requires-clause-room
add-requires-clause-room g c =
    subst
    (λ t. (k : ℕ) × (m : ℕ) × (k + m < 2147483648)
    × g.T.Tally.fits k (get_or c.loop-label.components (get_or c.args.places.now (get_or c.args.joined.now c.loop-label.label 0) 0) c.index-components-place.result).tally × g.T.Tally.fits m t)
    (sym c.index-tallies-label.is)
    (tallies_fit g.T.Tally.value g.T.Tally.fits (λ a. get_or c.args.places.now (get_or c.args.joined.now a 0) 0) c.args.crossings.now c.args.tallies.now c.args.components.now c.loop-label.label c.loop-label.components
    c.loop-label.invariant (length c.args.joined.now) c.index-components-place.result c.index-tallies-label.result c.loop-label-test.true c.if-place-components.true c.requires.few_steps)

pub loop-label-preserved : goal.loop-label-preserved
loop-label-preserved g c =
    let place : ℕ → ℕ = λ a. get_or c.args.places.now (get_or c.args.joined.now a 0) 0 in
    elim c.if-place-components.branch [
      | then-place-components w ↦ (
          let tally = w.index-tallies-label.result in
          let at : (t : g.row.T.Denot) → tally ≡ get_or c.args.tallies.now c.loop-label.label t
          = λ t. w.index-tallies-label.is ∙ get_or_default c.args.tallies.now c.loop-label.label tally t (omega (arith, c.requires.tallies, c.loop-label-test.true)) in
          subst (AreAdded g.T.Tally.value g.T.Tally.fits place (c.loop-label.label + 1) c.args.crossings.now c.args.tallies.now c.args.components.now) (sym w.components-is)
          (added_more g.T.Tally.value g.T.Tally.fits place c.args.crossings.now c.args.tallies.now c.args.components.now c.loop-label.label c.loop-label.components c.loop-label.invariant
          w.add.new.self (get_or c.loop-label.components (place c.loop-label.label) w.index-components-place.result) w.if-place-components.true
          (λ d. get_or_default c.loop-label.components (place c.loop-label.label) d w.index-components-place.result w.if-place-components.true)
          w.add.ensures.least w.add.ensures.crossings
          (λ t j. w.add.ensures.values j ∙ ap (λ x. g.T.Tally.value (get_or c.loop-label.components (place c.loop-label.label) w.index-components-place.result).tally j +ℤ g.T.Tally.value x j) (at t))
          (λ t k m f f'. w.add.ensures.fits k m f (subst (g.T.Tally.fits m) (sym (at t)) f'))))
      | else-place-components w ↦
          subst (AreAdded g.T.Tally.value g.T.Tally.fits place (c.loop-label.label + 1) c.args.crossings.now c.args.tallies.now c.args.components.now) (sym w.components-is)
          (added_past g.T.Tally.value g.T.Tally.fits place c.args.crossings.now c.args.tallies.now c.args.components.now c.loop-label.label c.loop-label.components c.loop-label.invariant (omega (arith, w.if-place-components.false)))
    ]

pub returns : goal.returns
returns g c =
    subst (λ n. AreAdded g.T.Tally.value g.T.Tally.fits (λ a. get_or c.args.places.now (get_or c.args.joined.now a 0) 0) n c.args.crossings.now c.args.tallies.now c.args.components.now c.loop-label.components)
    (omega (arith, c.loop-label.auto.label-end, c.loop-label-test.false)) c.loop-label.invariant
