use Rattle.std.proofs.Common.{◌≡◌, ◌≢◌, ◌<◌, ◌≤◌, ℕ}
use Rattle.component_labels.specs.Fronts.{none}
use Rattle.component_labels.specs.Labelling.{Stands, stand_of}
use Rattle.component_labels.proofs.front.label_range.Given as goal

abbrev pub invariant-loop-edge : goal.invariant-loop-edge
invariant-loop-edge l = record {
  low : (i : ℕ) → i < l.edge-index → l.low ≤ stand_of l.front l.places l.shift l.edges i;
  fits : l.low ≤ none;
  empty : l.low ≡ none → (i : ℕ) → i < l.edge-index → stand_of l.front l.places l.shift l.edges i ≡ none;
  own : l.low ≢ none → Stands (stand_of l.front l.places l.shift l.edges) l.edge-index l.low;
  end : (i : ℕ) → i < l.edge-index → stand_of l.front l.places l.shift l.edges i ≢ none → stand_of l.front l.places l.shift l.edges i < l.end;
}
