use Rattle.std.proofs.Common.{◌≡◌, ◌<◌, ◌≤◌, ◌^◌, length, get_or, ap, subst, ◌∙◌, sym, arith}
use Rattle.page_pool.proofs.Written.{length-all_items, blank_item, written_item}
use Rattle.page_pool.proofs.late_list.LateList.at.Goals as goal

pub blank-requires : goal.blank-requires
blank-requires g c =
    let s = c.self.inside in
    let few : s.total < 2 ^ 32 = c.self.invariant.1.1 in
    let count : length c.args.self.now ≡ s.total = ap length (sym c.self.view_is) ∙ length-all_items g.T.Item.blank s.written.items s.total c.self.invariant.0 in
    omega arith

pub returns-in-None : goal.returns-in-None
returns-in-None g c =
    let s = c.self.inside in
    let blank = g.T.Item.blank in
    let count : length c.args.self.now ≡ s.total = ap length (sym c.self.view_is) ∙ length-all_items blank s.written.items s.total c.self.invariant.0 in
    let past : length s.written.items ≤ c.args.at = omega (arith, c.in-None.ensures.lookup.3, ap length c.deref.ensures.value) in
    rw c.blank.ensures (blank_item blank s.written.items c.args.self.now c.args.at s.total c.self.view_is past (omega arith))

pub returns-in-Some : goal.returns-in-Some
returns-in-Some g c =
    let s = c.self.inside in
    let item = c.in-Some.item.now in
    let here : c.args.at < length s.written.items = omega (arith, c.in-Some.ensures.lookup.3.0, ap length c.deref.ensures.value) in
    written_item g.T.Item.blank s.written.items c.args.self.now c.args.at s.total item c.self.view_is here
    (subst (λ l. item ≡ get_or l c.args.at item) c.deref.ensures.value c.in-Some.ensures.lookup.1)
