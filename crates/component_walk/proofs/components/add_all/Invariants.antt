use Rattle.std.proofs.Common.{slice_index}
use Rattle.component_walk.specs.Begun.{AreAdded}
use Rattle.component_walk.proofs.components.add_all.Given as goal

abbrev pub invariant-loop-label : goal.invariant-loop-label
invariant-loop-label g l =
    AreAdded g.T.Tally.value g.T.Tally.fits (λ a. slice_index l.places (slice_index l.joined a)) l.label l.crossings l.tallies l.initial.components l.components
