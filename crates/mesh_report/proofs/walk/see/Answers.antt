use Rattle.mesh_report.proofs.WalkLaws.{keeps_more}
use Rattle.mesh_report.proofs.walk.see.Goals as goal

pub returns-in_ok-push-clause-kept : goal.returns-in_ok-push-clause-kept
returns-in_ok-push-clause-kept c =
    rw c.in_ok-push.ensures.items (keeps_more c.args.start c.args.names.now c.args.queue.now.items c.args.v c.requires.vertex c.if-names-v.true c.requires.start)
