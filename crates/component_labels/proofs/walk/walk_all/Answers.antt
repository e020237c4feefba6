use Rattle.std.proofs.Common.{◌≡◌, ◌≢◌, ◌∙◌, ◌<◌, ℕ, sym, subst, length, get_or, arith}
use Rattle.component_labels.specs.Chains.{ArePaired}
use Rattle.component_labels.specs.Walks.{AreClosed, IsSpread, none}
use Rattle.component_labels.proofs.LeastLaws.{least_is}
use Rattle.component_labels.proofs.WalkLaws.{closed_on, next_closed, next_spread}
use Rattle.component_labels.proofs.walk.walk_all.Goals as goal

pub walk_on-requires-clause-older : goal.walk_on-requires-clause-older
walk_on-requires-clause-older c =
    let i = c.loop-start.invariant in
    let paired : ArePaired (length c.loop-start.least) c.args.pairs.now = subst (λ n. ArePaired n c.args.pairs.now) (sym i.size) c.requires.paired in
    closed_on c.args.pairs.now c.loop-start.start (omega (arith, c.requires.few, c.loop-start-test.true)) c.loop-start.least c.loop-start.queue.items c.see.new.least c.see.new.queue.items paired
    c.in_ok-see.ensures.kept i.spread.known c.loop-start.walked i.closed

pub loop-start-preserved : goal.loop-start-preserved
loop-start-preserved c =
    let i = c.loop-start.invariant in
    let s : ℕ = c.loop-start.start in
    let inside : s < length c.args.least.now = c.loop-start-test.true in
    let e = c.in_ok-walked.ensures in
    let seen : get_or c.walk_on.new.least s 0 ≢ none
    = subst (λ z. z ≢ none) (sym (e.kept.same s (omega (arith, inside, i.size, c.in_ok-see.ensures.kept.size)) c.in_ok-see.ensures.seen)) c.in_ok-see.ensures.seen in
    record {
      size = e.kept.size ∙ (c.in_ok-see.ensures.kept.size ∙ i.size);
      spread = next_spread c.args.pairs.now s c.walk_on.new.least c.walk_on.new.queue.items e.spread c.in_ok-walked.walked e.closed.0 e.closed.1 seen;
      closed = next_closed c.args.pairs.now s c.walk_on.new.least c.walk_on.new.queue.items e.spread c.in_ok-walked.walked e.closed.0 e.closed.1 (omega (arith, c.requires.few));
      all = e.closed.1;
    }

pub returns : goal.returns
returns c =
    let i = c.loop-start.invariant in
    let n : ℕ = length c.args.least.now in
    let at : c.loop-start.start ≡ n = omega (arith, c.loop-start.auto.start-end, c.loop-start-test.false) in
    least_is c.args.pairs.now n c.loop-start.least c.loop-start.queue.items c.loop-start.walked i.size c.requires.paired
    (subst (λ k. IsSpread c.args.pairs.now k c.loop-start.least c.loop-start.queue.items) at i.spread)
    (subst (λ k. AreClosed c.args.pairs.now k c.loop-start.least c.loop-start.queue.items c.loop-start.walked) at i.closed) i.all
