use Rattle.std.proofs.Common.{drop, ap, sym, subst, ◌∙◌, ◌-◌, arith}
use Rattle.std.proofs.lemmas.Option.{get_or_from_slice_get}
use Rattle.page_pool.specs.Layout.{AreLinked, chain_from}
use Rattle.page_pool.proofs.Views.{linked_rest, next_linked, none_behind}
use Rattle.page_pool.proofs.entries.Entries.rest.Goals as goal

pub returns-then-self-many : goal.returns-then-self-many
returns-then-self-many c =
    let e = c.self.inside in
    c.new.ensures ∙ (sym (none_behind e.pages.now e.links.now e.page e.left c.self.invariant (omega (arith, c.if-self-many.true))) ∙ ap (drop 32) c.self.view_is)

pub new-requires-2 : goal.new-requires-2
new-requires-2 c =
    let e = c.self.inside in
    subst (λ page. AreLinked e.pages.now e.links.now page (e.left - 32)) (get_or_from_slice_get e.links.now e.page c.at-next.result 0 c.at-next.ensures)
    (next_linked e.pages.now e.links.now e.page e.left c.self.invariant (omega (arith, c.if-self-many.false)))

pub returns : goal.returns
returns c =
    let e = c.self.inside in
    c.new-2.ensures
    ∙ (ap (λ page. chain_from e.pages.now e.links.now page (e.left - 32)) (sym (get_or_from_slice_get e.links.now e.page c.at-next.result 0 c.at-next.ensures))
    ∙ (sym (linked_rest e.pages.now e.links.now e.page e.left c.self.invariant (omega (arith, c.if-self-many.false))) ∙ ap (drop 32) c.self.view_is))
