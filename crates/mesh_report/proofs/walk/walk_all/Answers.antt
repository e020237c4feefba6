use Rattle.std.proofs.Common.{◌≡◌, ◌≢◌, ◌∙◌, ◌<◌, ℕ, refl, sym, subst, length, get_or, arith}
use Rattle.mesh_report.specs.Walks.{AreMutual, none}
use Rattle.mesh_report.proofs.WalkLaws.{all_walked, closed_on, next_closed, next_spread}
use Rattle.mesh_report.proofs.walk.walk_all.Goals as goal

pub walk_on-requires-clause-closed : goal.walk_on-requires-clause-closed
walk_on-requires-clause-closed c =
    let i = c.loop-start.invariant in
    let both : AreMutual (length c.loop-start.names) c.args.rings.now = subst (λ n. AreMutual n c.args.rings.now) (sym i.size) c.requires.rings in
    closed_on c.args.rings.now c.loop-start.start (omega (arith, c.requires.few, c.loop-start-test.true)) c.loop-start.names c.loop-start.queue.items c.see.new.names c.see.new.queue.items both
    c.in_ok-see.ensures.kept i.spread.known c.loop-start.walked i.closed

pub loop-start-preserved : goal.loop-start-preserved
loop-start-preserved c =
    let i = c.loop-start.invariant in
    let s : ℕ = c.loop-start.start in
    let inside : s < length c.args.names.now = c.loop-start-test.true in
    let e = c.in_ok-walked.ensures in
    let seen : get_or c.walk_on.new.names s 0 ≢ none
    = subst (λ z. z ≢ none) (sym (e.kept.same s (omega (arith, inside, i.size, c.in_ok-see.ensures.kept.size)) c.in_ok-see.ensures.seen)) c.in_ok-see.ensures.seen in
    record {
      size = e.kept.size ∙ (c.in_ok-see.ensures.kept.size ∙ i.size);
      spread = next_spread c.args.rings.now s c.walk_on.new.names c.walk_on.new.queue.items e.spread c.in_ok-walked.walked e.closed.0 e.closed.1 seen;
      closed = next_closed c.args.rings.now s c.walk_on.new.names c.walk_on.new.queue.items e.spread c.in_ok-walked.walked e.closed.0 e.closed.1 (omega (arith, inside, c.requires.few));
      all = e.closed.1;
      alike = λ f h. e.alike f h (c.in_ok-see.ensures.alike f (i.alike f h) refl);
    }

pub returns : goal.returns
returns c =
    let i = c.loop-start.invariant in
    let n : ℕ = length c.args.names.now in
    let at : c.loop-start.start ≡ n = omega (arith, c.loop-start.auto.start-end, c.loop-start-test.false) in
    all_walked c.args.rings.now c.loop-start.start c.loop-start.names c.loop-start.queue.items i.spread c.loop-start.walked i.closed i.all n i.size at c.requires.rings i.alike
