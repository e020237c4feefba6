use Rattle.std.proofs.Common.{◌≡◌, ◌∙◌, ◌<◌, arith, sym, subst, get_or, length}
use Rattle.std.proofs.lemmas.List.{get_or_default}
use Rattle.component_labels.specs.Chains.{ArePaired}
use Rattle.component_labels.proofs.WalkLaws.{closed_step, keeps_on}
use Rattle.component_labels.proofs.walk.walk_on.Goals as goal

pub loop-walked-preserved : goal.loop-walked-preserved
loop-walked-preserved c =
    let i = c.loop-walked.invariant in
    let e = c.in_ok-see_ends.ensures in
    let inside : c.loop-walked.walked < length c.loop-walked.queue.items = omega (arith, c.loop-walked-test.true, c.len.ensures) in
    let at : c.index-label.result.now ≡ get_or c.loop-walked.queue.items c.loop-walked.walked 0
    = c.index-label.ensures ∙ sym (get_or_default c.loop-walked.queue.items c.loop-walked.walked 0 c.index-label.result.now inside) in
    let paired : ArePaired (length c.loop-walked.least) c.args.pairs.now = subst (λ n. ArePaired n c.args.pairs.now) (sym i.kept.size) c.requires.paired in
    record {
      spread = e.spread;
      kept = keeps_on c.args.start c.requires.start c.args.least.now c.args.queue.now.items c.loop-walked.least c.loop-walked.queue.items c.see_ends.new.least c.see_ends.new.queue.items i.kept e.kept;
      closed = closed_step c.args.pairs.now c.args.start c.requires.start c.loop-walked.least c.loop-walked.queue.items c.see_ends.new.least c.see_ends.new.queue.items paired e.kept i.spread.known
          c.loop-walked.walked i.closed inside e.spread (λ k l b. e.ends k l (b ∙ sym at));
    }
