use Rattle.std.proofs.Common.{◌≡◌, ◌+◌, get_or}
use Rattle.component_labels.specs.Fronts.{none}
use Rattle.component_walk.specs.Passed.{HasLeft}
use Rattle.row_bits.proofs.UnsetBits.{IsTold}
use Rattle.component_walk.proofs.leaving.leave_labelled.Given as goal

abbrev pub invariant-loop-bits : goal.invariant-loop-bits
invariant-loop-bits l = record {
  left : HasLeft l.place l.at l.initial.labels l.initial.edges l.labels l.edges;
  told : IsTold (λ k. get_or l.initial.labels.marks.labels (l.place + k) 0 ≡ none) l.count l.at l.bits;
}

abbrev pub decreases-loop-bits : goal.decreases-loop-bits
decreases-loop-bits l = l.bits
