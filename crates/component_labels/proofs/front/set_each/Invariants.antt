use Rattle.std.proofs.Common.{◌≡◌, ◌≢◌, ◌⊎◌, ◌<◌, ℕ, length, slice_index}
use Rattle.component_labels.proofs.front.set_each.Given as goal

abbrev pub invariant-loop-edge : goal.invariant-loop-edge
invariant-loop-edge l = record {
  size : length l.labels ≡ length l.initial.labels;
  set : (i : ℕ) → i < l.edge-index → slice_index l.labels (slice_index l.places (slice_index l.edges i)) ≡ l.label;
  others : (k : ℕ) → ((i : ℕ) → i < l.edge-index → slice_index l.places (slice_index l.edges i) ≢ k) → slice_index l.labels k ≡ slice_index l.initial.labels k;
  either : (k : ℕ) → (slice_index l.labels k ≡ l.label) ⊎ (slice_index l.labels k ≡ slice_index l.initial.labels k);
}
