use Rattle.std.proofs.Common.{length, sym, ap, ◌∙◌}
use Rattle.page_pool.proofs.Written.{length-all_items}
use Rattle.page_pool.proofs.late_list.LateList.count.Goals as goal

pub returns : goal.returns
returns g c =
    let s = c.self.inside in
    sym (length-all_items g.T.Item.blank s.written.items s.total c.self.invariant.0) ∙ ap length c.self.view_is
