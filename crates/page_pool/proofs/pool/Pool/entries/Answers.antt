use Rattle.std.proofs.Common.{◌≡◌, subst, sym, ap, ◌∙◌}
use Rattle.page_pool.specs.Layout.{AreLinked, chain_from}
use Rattle.page_pool.proofs.Views.{chain_linked, held}
use Rattle.page_pool.proofs.pool.Pool.entries.Goals as goal

pub new-requires : goal.new-requires
new-requires c =
    let s = c.self.inside in
    let h = held s.pages s.links s.lengths s.next_free s.free c.self.invariant c.args.self.now
    c.args.chain.now c.chain.inside.first c.self.view_is c.chain.view_is c.requires in
    let count : c.length-left.result ≡ h.0 = c.length-left.ensures.count ∙ h.1.count in
    subst (AreLinked s.pages s.links c.chain.inside.first) (sym count)
    (chain_linked s.pages s.links s.lengths s.next_free s.free c.self.invariant c.chain.inside.first h.0 h.1.named)

pub returns : goal.returns
returns c =
    let s = c.self.inside in
    let h = held s.pages s.links s.lengths s.next_free s.free c.self.invariant c.args.self.now
    c.args.chain.now c.chain.inside.first c.self.view_is c.chain.view_is c.requires in
    let count : c.length-left.result ≡ h.0 = c.length-left.ensures.count ∙ h.1.count in
    c.new.ensures
    ∙ (ap (chain_from s.pages s.links c.chain.inside.first) count ∙ sym h.1.content)
