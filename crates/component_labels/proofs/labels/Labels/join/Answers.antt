use Rattle.std.proofs.Common.{◌≡◌, ◌≢◌, ◌∙◌, ◌+◌, ◌%◌, ◌<◌, ℕ, length, slice_index, ap, sym, subst, arith}
use Rattle.std.proofs.Math.Nat.{mod-eq_of_lt}
use Rattle.part_laws.specs.Meets.{least_joined}
use Rattle.component_labels.specs.Fronts.{Marks, none, slot_of}
use Rattle.component_labels.specs.Labelling.{Adds, Known, Stands, stand_of}
use Rattle.component_labels.proofs.RangeLaws.{meet_added, meet_joined, same_joined}
use Rattle.component_labels.proofs.labels.Labels.join.Goals.{then-label-low+in_ok-meet, else-label-low}
use Rattle.component_labels.proofs.labels.Labels.join.Goals as goal

pub loop-edge-preserved : goal.loop-edge-preserved
loop-edge-preserved c =
    let i = c.loop-edge.invariant in
    let n : ℕ = c.loop-edge.edge-index in
    let all : ℕ = length c.args.edges.now in
    let low : ℕ = c.args.low in
    let old : Known = c.args.self.now in
    let before : Known = c.loop-edge.self in
    let stand : ℕ → ℕ = stand_of old.marks c.args.places.now c.args.shift c.args.edges.now in
    let place : ℕ = slot_of c.args.places.now c.args.shift c.args.edges.now n in
    let label : ℕ = c.label_at-label.result in
    let here : stand n ≡ label = ap (λ (m : Marks). slice_index m.labels place) (sym i.marks) ∙ sym c.label_at-label.ensures.value in
    elim c.if-label-low.branch [
      | then-label-low+in_ok-meet w ↦ (
          let m = w.in_ok-meet.ensures in
          let now : Known = w.meet.new.self in
          let some : label ≢ none = λ z. absurd (omega (arith, ap (λ x. (x + 1) % (none + 1)) z, w.if-label-low.true)) in
          record {
            marks = ap (λ (k : Known). k.marks) w.self-is ∙ (m.marks ∙ i.marks);
            count = ap (λ (k : Known). k.count) w.self-is ∙ (m.count ∙ i.count);
            pairs = subst (λ (k : Known). Adds (Stands stand all) old.pairs k.pairs) (sym w.self-is)
                (meet_added old.pairs before.pairs now.pairs stand all n low label here m.pairs c.loop-edge-test.true c.requires.own some i.pairs);
            joined = subst (λ (k : Known). (a : ℕ) → a < n + 1 → stand a ≢ none → least_joined k.pairs (stand a) ≡ least_joined k.pairs low) (sym w.self-is)
                (meet_joined old.pairs before.pairs now.pairs stand all n low label here m.pairs m.joined i.joined);
          })
      | else-label-low w ↦ (
          let is : stand n ≢ none → stand n ≡ low = λ d.
          (let next : (label + 1) % (none + 1) ≡ label + 1 = mod-eq_of_lt {n = label + 1} {m = none + 1} (omega (arith, here, d, c.label_at-label.type_inv)) in
          omega (arith, here, next, w.if-label-low.false, c.requires.smallest n c.loop-edge-test.true)) in
          record {
            marks = ap (λ (k : Known). k.marks) w.self-is ∙ i.marks;
            count = ap (λ (k : Known). k.count) w.self-is ∙ i.count;
            pairs = subst (λ (k : Known). Adds (Stands stand all) old.pairs k.pairs) (sym w.self-is) i.pairs;
            joined = subst (λ (k : Known). (a : ℕ) → a < n + 1 → stand a ≢ none → least_joined k.pairs (stand a) ≡ least_joined k.pairs low) (sym w.self-is)
                (same_joined before.pairs stand n low is i.joined);
          })
    ]
