use Rattle.std.proofs.Common.{◌≡◌, ◌≢◌, ◌∙◌, ◌-◌, ◌<◌, ℕ, ap, sym, subst, get_or, length, arith, inl, inr}
use Rattle.std.proofs.lemmas.Bool.{cases_eq, cases_lt}
use Rattle.std.proofs.lemmas.List.{get_or_default}
use Rattle.part_laws.specs.Meets.{least_joined}
use Rattle.component_labels.specs.Chains.{IsLast, begins_at, ends_at}
use Rattle.component_labels.specs.Walks.{none}
use Rattle.component_labels.proofs.LeastLaws.{ends_joined}
use Rattle.component_labels.proofs.WalkLaws.{keeps_on}
use Rattle.component_labels.proofs.walk.see_ends.Goals as goal

pub loop-left-preserved : goal.loop-left-preserved
loop-left-preserved c =
    let i = c.loop-left.invariant in
    let ps = c.args.pairs.now in
    let at : ℕ = c.loop-left.left - 1 in
    let some : 0 < c.loop-left.left = c.loop-left-test.true in
    let inside : at < length ps = omega (arith, i.low) in
    let link : IsLast ps (begins_at ps at) at (get_or c.args.chains.now.before.items at 0) = c.requires.chained.before_is at inside in
    let next : get_or c.args.chains.now.before.items at 0 ≡ c.index-left-in-loop-left.result.now
    = get_or_default c.args.chains.now.before.items at 0 c.index-left-in-loop-left.result.now (omega (arith, c.requires.links)) ∙ sym c.index-left-in-loop-left.ensures in
    let here : IsLast ps (begins_at ps at) at c.index-left-in-loop-left.result.now = subst (IsLast ps (begins_at ps at) at) next link in
    let owner : begins_at ps at ≡ c.args.label = i.there some in
    let e = c.in_ok-see.ensures in
    let size : length c.loop-left.least ≡ length c.args.least.now = i.kept.size in
    record {
      low = omega (arith, here.low, inside);
      there = λ h. here.there h ∙ owner;
      ends = λ k a b o.
          elim (cases_eq k at) [
            | inl q ↦ subst (λ z. get_or c.see.new.least (ends_at ps z) 0 ≢ none) (sym q) e.seen
            | inr d ↦ elim (cases_lt k at) [
              | inl l ↦ absurd (here.none_behind k a l (o ∙ sym owner))
              | inr m ↦ (
                  let n : get_or c.loop-left.least (ends_at ps k) 0 ≢ none = i.ends k (omega arith) b o in
                  subst (λ z. z ≢ none) (sym (e.kept.same (ends_at ps k) (omega (arith, size, c.requires.paired.ends k b)) n)) n)
            ]
          ];
      spread = e.spread ps i.spread (ends_joined ps at inside ∙ (ap (least_joined ps) owner ∙ c.requires.same));
      kept = keeps_on c.args.start c.requires.start c.args.least.now c.args.queue.now.items c.loop-left.least c.loop-left.queue.items c.see.new.least c.see.new.queue.items i.kept e.kept;
    }
