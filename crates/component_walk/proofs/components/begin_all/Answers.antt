use Rattle.std.proofs.Common.{◌≡◌, ◌∙◌, ℕ, ◌+◌, ◌<◌, List, ◌++◌, ◌∷◌, [], length, get_or, map, set, take, ap, sym, subst, arith}
use Rattle.std.proofs.lemmas.List.{length-map, length_push, take_all}
use Rattle.component_labels.specs.Fronts.{none}
use Rattle.component_walk.specs.Begun.{AreBegun}
use Rattle.component_walk.proofs.BegunLaws.{begun_none, next_before, next_more}
use Rattle.component_walk.proofs.components.begin_all.Goals as goal
use Rattle.component_walk.proofs.components.begin_all.Goals.{then-places-name+in_ok-push, else-places-name}

pub loop-label-init : goal.loop-label-init
loop-label-init g c = record {
  few = omega (arith, ap length c.new-components.ensures.items);
  begun = λ label number es e.
      begun_none g.T.Tally.value g.T.Tally.fits (λ e. get_or c.args.joined.now (label e) 0) number c.args.places.now c.new-components.result.items c.new-components.ensures.items c.requires.none;
}

pub overflow_cast-places : goal.overflow_cast-places
overflow_cast-places g c = omega (arith, c.len.ensures, c.loop-label.components.ok.0, c.loop-label.invariant.few, c.loop-label-test.true, c.requires.few)

pub loop-label-preserved : goal.loop-label-preserved
loop-label-preserved g c =
    let i = c.loop-label.invariant in
    let n : ℕ = c.loop-label.label-index in
    let joined : List ℕ = c.args.joined.now in
    let a : ℕ = (get_or c.args.order.now n (0, 0)).0 in
    let known : a < length joined = c.requires.labels n (0, 0) c.loop-label-test.true in
    let inside : get_or joined a 0 < length c.loop-label.places = omega (arith, c.requires.joined a known, c.loop-label.auto.places) in
    let few : length c.loop-label.components.items < none = omega (arith, i.few, c.loop-label-test.true, c.requires.few) in
    let grown : List ℕ → List _ → Type 0
    = λ ps cs. (label number : ℕ → ℕ) (es : List ℕ) → c.args.order.now ≡ map (λ e. (label e, number e)) es
    → AreBegun g.T.Tally.value g.T.Tally.fits (λ e. get_or joined (label e) 0) number (take (n + 1) es) ps cs in
    elim c.if-places-name.branch [
      | then-places-name+in_ok-push w ↦ (
          let items : c.if-places-name.components.items ≡ c.loop-label.components.items ++ w.begin.result ∷ []
          = ◌∙◌ {c = c.loop-label.components.items ++ w.begin.result ∷ []} (ap (λ v. v.items) w.components-is) w.in_ok-push.ensures.items in
          let size : w.len.result ≡ length c.loop-label.components.items = omega (arith, w.len.ensures, c.loop-label.components.ok.0) in
          let places : c.if-places-name.places ≡ set c.loop-label.places (get_or joined a 0) (length c.loop-label.components.items) = w.places-is ∙ ap (set c.loop-label.places (get_or joined a 0)) size in
          record {
            few = omega (arith, i.few, ap length items, length_push c.loop-label.components.items w.begin.result);
            begun = subst (λ ps. grown ps c.if-places-name.components.items) (sym places) (subst (grown (set c.loop-label.places (get_or joined a 0) (length c.loop-label.components.items))) (sym items)
                (λ label number es e. next_more g.T.Tally.value g.T.Tally.fits joined c.loop-label.places c.args.order.now c.loop-label.components.items n c.loop-label-test.true inside label number es e (i.begun label number es e)
                w.begin.result w.if-places-name.true few w.begin.ensures.least w.begin.ensures.empty));
          })
      | else-places-name w ↦ record {
        few = omega (arith, i.few, ap (λ v. length v.items) w.components-is);
        begun = subst (λ ps. grown ps c.if-places-name.components.items) (sym w.places-is) (subst (grown c.loop-label.places) (sym (ap (λ v. v.items) w.components-is))
            (λ label number es e. next_before g.T.Tally.value g.T.Tally.fits joined c.loop-label.places c.args.order.now c.loop-label.components.items n c.loop-label-test.true inside label number es e (i.begun label number es e)
            w.if-places-name.false));
      }
    ]

pub returns-clause-begun : goal.returns-clause-begun
returns-clause-begun g c = λ label number es e.
    (let long : length c.args.order.now ≡ length es = ap length e ∙ length-map es (λ e. (label e, number e)) in
    let all : take c.loop-label.label-index es ≡ es = take_all c.loop-label.label-index es (omega (arith, long, c.loop-label.auto.label-index-end, c.loop-label-test.false)) in
    subst (λ ds. AreBegun g.T.Tally.value g.T.Tally.fits (λ e. get_or c.args.joined.now (label e) 0) number ds c.loop-label.places c.loop-label.components.items) all (c.loop-label.invariant.begun label number es e))
