use Rattle.std.proofs.Common.{◌≡◌, ◌∙◌, ◌+◌, ◌-◌, ◌%◌, ◌≤◌, List, ℕ, length, slice_index, take, drop, ap, sym, arith}
use Rattle.std.proofs.lemmas.List.{get_or-drop, take_rest}
use Rattle.std.proofs.Math.Nat.{mod-eq_of_lt}
use Rattle.component_labels.specs.Fronts.{Marks, none, slot_of}
use Rattle.component_labels.specs.Labelling.{stand_of}
use Rattle.component_labels.proofs.RangeLaws.{empty_on, end_on, low_on, own_on}
use Rattle.component_labels.proofs.front.label_range.Goals as goal

pub loop-edge-preserved : goal.loop-edge-preserved
loop-edge-preserved c =
    let i = c.loop-edge.invariant in
    let n : ℕ = c.loop-edge.edge-index in
    let stand : ℕ → ℕ = stand_of c.args.front.now c.args.places.now c.args.shift c.args.edges.now in
    let at : ℕ = slice_index c.args.places.now (slice_index c.args.edges.now n) in
    let place : ℕ = slot_of c.args.places.now c.args.shift c.args.edges.now n in
    let all : List ℕ = c.deref.result.now in
    let label : ℕ = slice_index (take (length all - c.args.shift) (drop c.args.shift all)) at in
    let is : label ≡ slice_index all place = ap (λ (ls : List ℕ). slice_index ls at) (take_rest all c.args.shift) ∙ (get_or-drop c.args.shift all at 0 ∙ ap (slice_index all) (omega arith)) in
    let here : stand n ≡ label
    = ap (λ (m : Marks). slice_index m.labels place) (sym c.front.view_is) ∙ (ap (λ (ls : List ℕ). slice_index ls place) (sym c.deref.ensures.value) ∙ sym is) in
    let bound : label ≤ none = omega (arith, c.type_inv.labels at) in
    record {
      low = low_on stand n c.loop-edge.low label c.min-low.result here c.min-low.ensures i.low;
      fits = omega (arith, c.min-low.type_inv);
      empty = empty_on stand n c.loop-edge.low label c.min-low.result here c.min-low.ensures i.fits bound i.empty;
      own = own_on stand n c.loop-edge.low label c.min-low.result here c.min-low.ensures i.own;
      end = end_on stand n c.loop-edge.end label ((label + 1) % (none + 1)) c.max-end.result here c.max-end.ensures (λ d. omega (arith, mod-eq_of_lt {n = label + 1} {m = none + 1} (omega arith))) i.end;
    }
