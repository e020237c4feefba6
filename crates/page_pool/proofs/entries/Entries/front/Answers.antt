use Rattle.std.proofs.Common.{min, take, sym, ap, ◌∙◌}
use Rattle.page_pool.proofs.Views.{linked_page}
use Rattle.page_pool.proofs.entries.Entries.front.Goals as goal

pub returns : goal.returns
returns c =
    let e = c.self.inside in
    ap (λ i. take i c.page_at.result.now) c.min-count.ensures
    ∙ (ap (take (min e.left 32)) c.page_at.ensures
    ∙ (sym (linked_page e.pages.now e.links.now e.page e.left c.self.invariant) ∙ ap (take 32) c.self.view_is))
