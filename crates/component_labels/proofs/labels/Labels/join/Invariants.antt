use Rattle.std.proofs.Common.{◌≡◌, ◌≢◌, ◌<◌, ℕ, length}
use Rattle.part_laws.specs.Meets.{least_joined}
use Rattle.component_labels.specs.Fronts.{none}
use Rattle.component_labels.specs.Labelling.{Adds, Stands, stand_of}
use Rattle.component_labels.proofs.labels.Labels.join.Given as goal

abbrev pub invariant-loop-edge : goal.invariant-loop-edge
invariant-loop-edge l = record {
  marks : l.self.marks ≡ l.initial.self.marks;
  count : l.self.count ≡ l.initial.self.count;
  pairs : Adds (Stands (stand_of l.initial.self.marks l.places l.shift l.edges) (length l.edges)) l.initial.self.pairs l.self.pairs;
  joined : (i : ℕ) → i < l.edge-index → stand_of l.initial.self.marks l.places l.shift l.edges i ≢ none
      → least_joined l.self.pairs (stand_of l.initial.self.marks l.places l.shift l.edges i) ≡ least_joined l.self.pairs l.low;
}
