use Rattle.std.proofs.Common.{◌≡◌, ℕ, [], ◌∷◌, ◌++◌, cond, length, length-append, vec_len, ◌∙◌, ap, sym, arith}
use Rattle.std.specs.Result.{is_ok}
use Rattle.page_pool.specs.Layout.{all_items}
use Rattle.page_pool.proofs.Written.{items_reached}
use Rattle.page_pool.proofs.late_list.reach.Goals as goal

pub loop-next-preserved : goal.loop-next-preserved
loop-next-preserved g c =
    let blank = g.T.Item.blank in
    let w = c.loop-next.invariant in
    let written = c.loop-next.written.items in
    let at : ℕ = c.loop-next.next in
    let items : c.push.new.self.items ≡ written ++ blank at ∷ []
    = c.push.ensures.items ∙ (ap (λ r. cond (is_ok r) (written ++ c.blank.result ∷ []) written) c.unwrap.ensures ∙ ap (λ b. written ++ b ∷ []) c.blank.ensures) in
    let size = length-append written (blank at ∷ []) in
    record {
      count = ap length items ∙ omega (arith, size, w.count);
      items = λ total low.
          ap (λ l. all_items blank l total) (items ∙ ap (λ n. written ++ blank n ∷ []) (sym w.count))
          ∙ (items_reached blank written total (omega (arith, w.count)) ∙ w.items total low);
      within = λ total low few. omega arith;
      room = omega (arith, w.room, c.push.ensures.capacity);
    }

pub unwrap-requires : goal.unwrap-requires
unwrap-requires g c =
    let w = c.loop-next.invariant in
    let len : vec_len c.loop-next.written ≡ length c.loop-next.written.items = c.loop-next.written.ok.0 in
    c.push.ensures.succeeds (omega (arith, len, w.count, w.room, c.requires.room, c.loop-next-test.true))
