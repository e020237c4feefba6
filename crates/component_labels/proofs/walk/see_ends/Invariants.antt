use Rattle.std.proofs.Common.{◌≡◌, ◌≢◌, ℕ, ◌<◌, ◌≤◌, ◌-◌, length, slice_index}
use Rattle.component_labels.specs.Chains.{begins_at, ends_at}
use Rattle.component_labels.specs.Walks.{IsSpread, Keeps, none}
use Rattle.component_labels.proofs.walk.see_ends.Given as goal

abbrev pub invariant-loop-left : goal.invariant-loop-left
invariant-loop-left l = record {
  low : l.left ≤ length l.pairs;
  there : 0 < l.left → begins_at l.pairs (l.left - 1) ≡ l.label;
  ends : (i : ℕ) → l.left ≤ i → i < length l.pairs → begins_at l.pairs i ≡ l.label → slice_index l.least (ends_at l.pairs i) ≢ none;
  spread : IsSpread l.pairs l.start l.least l.queue.items;
  kept : Keeps l.start l.initial.least l.initial.queue.items l.least l.queue.items;
}

abbrev pub decreases-loop-left : goal.decreases-loop-left
decreases-loop-left l = l.left
