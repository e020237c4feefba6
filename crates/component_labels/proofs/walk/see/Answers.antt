use Rattle.component_labels.proofs.WalkLaws.{keeps_more}
use Rattle.component_labels.proofs.walk.see.Goals as goal

pub returns-in_ok-push-clause-kept : goal.returns-in_ok-push-clause-kept
returns-in_ok-push-clause-kept c =
    rw c.in_ok-push.ensures.items (keeps_more c.args.start c.args.least.now c.args.queue.now.items c.args.label c.requires.label c.if-least-label.true c.requires.start)
