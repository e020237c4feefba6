use Rattle.std.proofs.Common.{◌≡◌, ◌<◌, ◌≤◌, ◌^◌, length, length-set, set, ap, ◌∙◌, sym, arith, vec_capacity}
use Rattle.page_pool.proofs.Written.{length-all_items, items_put}
use Rattle.page_pool.proofs.late_list.LateList.put.Goals as goal

pub reach-requires-clause-room : goal.reach-requires-clause-room
reach-requires-clause-room g c =
    let s = c.self.inside in
    let within : length s.written.items ≤ s.total = c.self.invariant.0 in
    let room : s.total ≤ vec_capacity s.written = c.self.invariant.1.0 in
    let count : length c.args.self.now ≡ s.total = ap length (sym c.self.view_is) ∙ length-all_items g.T.Item.blank s.written.items s.total within in
    omega arith

pub reach-requires-clause-few : goal.reach-requires-clause-few
reach-requires-clause-few g c =
    let s = c.self.inside in
    let within : length s.written.items ≤ s.total = c.self.invariant.0 in
    let few : s.total < 2 ^ 32 = c.self.invariant.1.1 in
    let count : length c.args.self.now ≡ s.total = ap length (sym c.self.view_is) ∙ length-all_items g.T.Item.blank s.written.items s.total within in
    omega arith

pub invariant_of-self : goal.invariant_of-self
invariant_of-self g c =
    let s = c.self.inside in
    let within : length s.written.items ≤ s.total = c.self.invariant.0 in
    let count : length c.args.self.now ≡ s.total = ap length (sym c.self.view_is) ∙ length-all_items g.T.Item.blank s.written.items s.total within in
    let low : c.args.at < s.total = omega arith in
    let room : s.total ≤ vec_capacity s.written = c.self.invariant.1.0 in
    let size = length-set c.reach.new.written.items c.args.at c.args.item in (
      omega (arith, size, c.reach.ensures.within s.total low within),
      (omega (arith, room, c.reach.ensures.capacity), c.self.invariant.1.1),
    )

pub returns : goal.returns
returns g c =
    let s = c.self.inside in
    let within : length s.written.items ≤ s.total = c.self.invariant.0 in
    let count : length c.args.self.now ≡ s.total = ap length (sym c.self.view_is) ∙ length-all_items g.T.Item.blank s.written.items s.total within in
    let low : c.args.at < s.total = omega arith in
    items_put g.T.Item.blank c.reach.new.written.items c.args.at s.total c.args.item c.reach.ensures.inside
    ∙ ap (λ all. set all c.args.at c.args.item) (c.reach.ensures.items s.total low ∙ c.self.view_is)
