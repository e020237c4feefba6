use Rattle.std.proofs.Common.{◌∙◌, ℕ, ◌<◌, List, length, sym, ap₂, subst}
use Rattle.std.specs.List.{sum_by}
use Rattle.iso_defs.specs.Lists.{below}
use Rattle.mesh_report.specs.declared.part.Part.{Part}
use Rattle.flat_mesh.specs.Lattice.{Leveled}
use Rattle.brick_rows.specs.Rows.{at_level}
use Rattle.component_walk.specs.Components.{AreComponents}
use Rattle.component_walk.specs.Counts.{counted, fit, number}
use Rattle.component_walk.specs.Sums.{FitEach}
use Rattle.component_walk.specs.declared.tally.LoopCounts.{LoopCounts}
use Rattle.component_walk.proofs.MeshCounts.{added_is, crossings_are, parts_ascend, parts_few, parts_told, tallies_fit, whole_few, whole_is}
use Rattle.component_walk.proofs.numbers.part_numbers.Goals as goal

pub parts_of-requires-clause-few : goal.parts_of-requires-clause-few
parts_of-requires-clause-few g c =
    let v : Leveled = at_level c.args.store.now c.args.level in
    parts_few v c.sizes.ensures.volume.grid c.as_slice-2.result.now (subst (AreComponents number fit counted v) (sym c.as_slice-2.ensures.value) (c.in_ok-components.ensures v c.in_ok-walked.ensures.whole))

pub parts_of-requires-clause-ascending : goal.parts_of-requires-clause-ascending
parts_of-requires-clause-ascending g c =
    let v : Leveled = at_level c.args.store.now c.args.level in
    parts_ascend v c.sizes.ensures.volume.grid c.as_slice-2.result.now (subst (AreComponents number fit counted v) (sym c.as_slice-2.ensures.value) (c.in_ok-components.ensures v c.in_ok-walked.ensures.whole))

pub sum_of-all-requires : goal.sum_of-all-requires
sum_of-all-requires g c =
    let v : Leveled = at_level c.args.store.now c.args.level in
    let w = c.in_ok-walked.walked in
    let h = c.in_ok-walked.ensures.whole in
    record {
      room = subst (λ (ts : List LoopCounts). (n : ℕ → ℕ) × (sum_by n (below (length ts)) < 2147483648) × FitEach fit n ts) (sym c.as_slice.ensures.value)
          (tallies_fit v c.sizes.ensures.volume.grid number fit counted w.labels w.tallies.items w.edges h);
    }

pub part_of-total-requires : goal.part_of-total-requires
part_of-total-requires g c =
    let v : Leveled = at_level c.args.store.now c.args.level in
    let w = c.in_ok-walked.walked in
    let h = c.in_ok-walked.ensures.whole in
    whole_few v c.sizes.ensures.volume.grid c.sum_of-all.result
    (added_is v c.sizes.ensures.volume.grid number fit counted w.labels w.tallies.items w.edges h c.as_slice.result.now c.as_slice.ensures.value c.sum_of-all.result c.sum_of-all.ensures)
    w.edges.count (crossings_are v c.sizes.ensures.volume.grid number fit counted w.labels w.tallies.items w.edges h)

pub returns-clause-report : goal.returns-clause-report
returns-clause-report g c =
    let v : Leveled = at_level c.args.store.now c.args.level in
    let w = c.in_ok-walked.walked in
    let h = c.in_ok-walked.ensures.whole in
    let whole
    = whole_is v c.sizes.ensures.volume.grid c.sum_of-all.result
    (added_is v c.sizes.ensures.volume.grid number fit counted w.labels w.tallies.items w.edges h c.as_slice.result.now c.as_slice.ensures.value c.sum_of-all.result c.sum_of-all.ensures)
    w.edges.count (crossings_are v c.sizes.ensures.volume.grid number fit counted w.labels w.tallies.items w.edges h) in
    let parts
    = parts_told v c.sizes.ensures.volume.grid c.as_slice-2.result.now (subst (AreComponents number fit counted v) (sym c.as_slice-2.ensures.value) (c.in_ok-components.ensures v h)) in
    c.new.ensures ∙ ap₂ (λ (t : Part) (ps : List Part). record { total = t; parts = ps }) (c.part_of-total.ensures ∙ whole) (c.in_ok-parts.ensures ∙ parts)
