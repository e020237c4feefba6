use Rattle.std.proofs.Common.{ℕ, ◌≤◌, ◌≡◌, ◌∙◌, ◌+◌, ◌-◌, ap, sym, subst, arith}
use Rattle.iso_defs.specs.Grid.{Grid}
use Rattle.iso_base.specs.declared.point.Point.{Point}
use Rattle.stitch.proofs.KnownLists.{known_none}
use Rattle.stitch.proofs.Forgetting.{AreWithoutRows, rows_more}
use Rattle.stitch.proofs.Staying.{lists_stay}
use Rattle.stitch.proofs.room.RowRoom.forget_box.Goals as goal

-- the slices end behind the box
end_at : (z first low high end : ℕ) → first ≡ low - 1 → high ≡ end → low ≤ end → high + 1 ≤ z → (first ≤ high + 1 → z ≤ high + 1) → z ≡ end + 1
end_at z first low high end begin same order done fits = omega (arith, begin, same, order, done, fits)

pub returns-then-end_y-first_y-ge-MOST_ROWS-clause-right : goal.returns-then-end_y-first_y-ge-MOST_ROWS-clause-right
returns-then-end_y-first_y-ge-MOST_ROWS-clause-right c v w grid same are =
    known_none w c.forget.new.self (c.forget.ensures.within are.within.most) c.forget.ensures.none

pub loop-z-preserved : goal.loop-z-preserved
loop-z-preserved c = record {
  ranks = c.loop-z.invariant.ranks;
  rows = rows_more c.saturating_sub-first_y.result (c.high-high.result.y + 1) c.saturating_sub-first_z.result c.loop-z.z c.ny-ny.result
      c.args.self.now.known.recent c.loop-z.self.known.recent c.forget_keys.new.self c.loop-z.invariant.rows c.forget_keys.ensures;
}

pub returns-clause-right : goal.returns-clause-right
returns-clause-right c v w grid same are =
    let a = c.args.area.now in
    let old = c.args.self.now.known.recent in
    let new = c.loop-z.self.known.recent in
    let low_y : c.saturating_sub-first_y.result ≡ a.low.y - 1 = c.saturating_sub-first_y.ensures ∙ ap (λ (p : Point). p.y - 1) c.low-low.ensures.value in
    let low_z : c.saturating_sub-first_z.result ≡ a.low.z - 1 = c.saturating_sub-first_z.ensures ∙ ap (λ (p : Point). p.z - 1) c.low-low.ensures.value in
    let end_y : c.high-high.result.y + 1 ≡ a.high.y + 1 = ap (λ (p : Point). p.y + 1) c.high-high.ensures.value in
    let end_z : c.loop-z.z ≡ a.high.z + 1 = end_at c.loop-z.z c.saturating_sub-first_z.result a.low.z c.high-high.result.z a.high.z low_z (ap (λ (p : Point). p.z) c.high-high.ensures.value) c.high-high.ensures.area.z c.loop-z-test.false c.loop-z.auto.z-end in
    let along : c.ny-ny.result ≡ v.grid.ny = c.ny-ny.ensures.value ∙ (ap (λ (g : Grid). g.ny) c.sizes.ensures.value ∙ sym (ap (λ (g : Grid). g.ny) grid)) in
    lists_stay a v w old new same
    (subst (λ n. AreWithoutRows n (a.high.y + 1) (a.low.z - 1) (a.high.z + 1) v.grid.ny old new) low_y
    (subst (λ n. AreWithoutRows c.saturating_sub-first_y.result n (a.low.z - 1) (a.high.z + 1) v.grid.ny old new) end_y
    (subst (λ n. AreWithoutRows c.saturating_sub-first_y.result (c.high-high.result.y + 1) n (a.high.z + 1) v.grid.ny old new) low_z
    (subst (λ n. AreWithoutRows c.saturating_sub-first_y.result (c.high-high.result.y + 1) c.saturating_sub-first_z.result n v.grid.ny old new) end_z
    (subst (λ n. AreWithoutRows c.saturating_sub-first_y.result (c.high-high.result.y + 1) c.saturating_sub-first_z.result c.loop-z.z n old new) along
    c.loop-z.invariant.rows)))))
    are
