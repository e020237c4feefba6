use Rattle.std.proofs.Common.{◌≡◌, ℕ, ◌<◌, ◌≤◌, length, vec_capacity}
use Rattle.page_pool.specs.Layout.{all_items}
use Rattle.page_pool.proofs.late_list.reach.Given as goal

abbrev pub invariant-loop-next : goal.invariant-loop-next
invariant-loop-next g l = record {
  count : length l.written.items ≡ l.next;
  items : (total : ℕ) → l.at < total
      → all_items g.T.Item.blank l.written.items total ≡ all_items g.T.Item.blank l.initial.written.items total;
  within : (total : ℕ) → l.at < total → length l.initial.written.items ≤ total → l.next ≤ total;
  room : vec_capacity l.initial.written ≤ vec_capacity l.written;
}
