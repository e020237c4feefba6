use Rattle.std.proofs.Common.{◌≡◌, ◌≢◌, ◌<◌, length, ap, sym, subst, inl, inr, arith}
use Rattle.component_labels.specs.Fronts.{none, room}
use Rattle.component_labels.specs.Labelling.{Known}
use Rattle.component_labels.proofs.labels.Labels.add_loop.Goals as goal

pub invariant_of-self : goal.invariant_of-self
invariant_of-self c =
    let e = c.set_all.ensures in
    let count : length c.self.inside.met.items ≡ c.label_of.new.self.count = ap (λ (k : Known). k.count) c.self.view_is in
    let low : c.in_ok-label.label < length c.self.inside.met.items = omega (arith, c.in_ok-label.ensures.low, count) in (
      c.self.invariant.0,
      record {
        size = e.size;
        low = λ k l d.
            elim (e.either k) [
              | inl q ↦ subst (λ z. z < length c.self.inside.met.items) (sym q) low
              | inr q ↦ subst (λ z. z < length c.self.inside.met.items) (sym q)
                  (c.self.invariant.1.low k (subst (λ g. k < room g) e.grid l) (subst (λ z. z ≢ none) q d))
            ];
      },
    )
