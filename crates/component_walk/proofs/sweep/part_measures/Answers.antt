use Rattle.std.proofs.Common.{◌∙◌, All, is_some, map, sym, ap, ap₂, subst}
use Rattle.iso_base.proofs.VolumeLaws.{grid_is_thick}
use Rattle.brick_rows.specs.Rows.{at_level}
use Rattle.component_walk.specs.Components.{AreComponents}
use Rattle.component_walk.specs.Shares.{CanMove, share_at}
use Rattle.component_walk.specs.Sweep.{AreSmall, measure_at, measured_of}
use Rattle.component_walk.proofs.MeasureLaws.{components_move, shares_measured}
use Rattle.component_walk.proofs.sweep.part_measures.Goals as goal

pub shares_of-requires : goal.shares_of-requires
shares_of-requires g c =
    let v = at_level c.args.store.now c.args.level in
    let are : AreComponents measure_at AreSmall measured_of v c.in_ok-components.components.items = c.in_ok-components.ensures v c.in_ok-walked.ensures.whole in
    subst (All CanMove) (sym c.as_slice.ensures.value) (components_move v c.in_ok-components.components.items are c.sizes.ensures.volume.grid)

pub returns-clause-measures : goal.returns-clause-measures
returns-clause-measures g c =
    let v = at_level c.args.store.now c.args.level in
    let are : AreComponents measure_at AreSmall measured_of v c.in_ok-components.components.items = c.in_ok-components.ensures v c.in_ok-walked.ensures.whole in
    c.new.ensures
    ∙ (c.in_ok-shares.ensures
    ∙ (ap₂ (λ b cs. map (share_at b) cs) (c.is_some.ensures ∙ ap is_some c.pad.ensures.value) c.as_slice.ensures.value
    ∙ shares_measured c.args.store.now c.args.level c.in_ok-components.components.items (grid_is_thick c.sizes.ensures.volume.grid) are))
