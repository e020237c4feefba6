use Rattle.std.proofs.Common.{◌≡◌, ◌≤◌, ℕ, List, length, map, slice_index, take}
use Rattle.component_walk.specs.Begun.{AreBegun}
use Rattle.component_walk.proofs.components.begin_all.Given as goal

abbrev pub invariant-loop-label : goal.invariant-loop-label
invariant-loop-label g l = record {
  few : length l.components.items ≤ l.label-index;
  begun : (label number : ℕ → ℕ) (es : List ℕ) → l.order ≡ map (λ e. (label e, number e)) es
      → AreBegun g.T.Tally.value g.T.Tally.fits (λ e. slice_index l.joined (label e)) number (take l.label-index es) l.places l.components.items;
}
