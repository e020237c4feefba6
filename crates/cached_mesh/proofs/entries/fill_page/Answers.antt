use Rattle.std.proofs.Common.{sym}
use Rattle.cached_mesh.proofs.LastCase.{none_before}
use Rattle.cached_mesh.proofs.entries.fill_page.Goals as goal

pub returns-then-end_before : goal.returns-then-end_before
returns-then-end_before c = λ k from low. sym (none_before c.args.first c.args.page.now (c.end_before.ensures c.if-end_before.true) _ k from)
