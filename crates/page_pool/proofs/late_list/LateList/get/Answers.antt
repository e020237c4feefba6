use Rattle.std.proofs.Common.{◌≡◌, ◌<◌, ◌≤◌, List, length, ap, subst, ◌∙◌, sym, arith}
use Rattle.std.specs.List.{HoldsAt}
use Rattle.std.specs.Option.{MatchOption}
use Rattle.page_pool.proofs.Written.{length-all_items, found_item}
use Rattle.page_pool.proofs.late_list.LateList.get.Goals as goal

pub returns : goal.returns
returns g c =
    let s = c.self.inside in
    let blank = g.T.Item.blank in
    let count : length c.args.self.now ≡ s.total = ap length (sym c.self.view_is) ∙ length-all_items blank s.written.items s.total c.self.invariant.0 in
    found_item blank s.written.items c.args.self.now c.args.at s.total c.get.result c.self.view_is (omega arith)
    (subst (λ (l : List g.row.T.Denot). MatchOption c.get.result (length l ≤ c.args.at) (λ x. (c.args.at < length l) × HoldsAt (λ y. x.now ≡ y) l c.args.at))
    c.deref.ensures.value c.get.ensures.lookup.3)
