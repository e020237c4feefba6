use Rattle.std.proofs.Common.{◌≡◌, ℕ, ℤ, ◌+◌, ◌-◌, ◌*◌, ◌<◌, ◌≤◌, not, false, List, length, is_some, sym, ap, subst, ◌∙◌, arith}
use Rattle.iso_defs.specs.Bricks.{brick_count, is_active}
use Rattle.iso_defs.specs.Grid.{Grid}
use Rattle.iso_base.specs.Volume.{field}
use Rattle.mesh_cache.specs.Cache.{Cache, kept_at}
use Rattle.mesh_cache.specs.Offering.{Offers}
use Rattle.mesh_cache.specs.Economy.{Refresh, is_fresh, item_for, done}
use Rattle.brick_store.specs.Next.{IsFirst}
use Rattle.mesh_cache.proofs.Turns.{waited, passed_over, offered_next, ended, enough, stale_by, fresh_by}
use Rattle.mesh_cache.proofs.turn.refresh.Goals as goal
use Rattle.mesh_cache.proofs.turn.refresh.Goals.{then-is_none, else-is_none}

pub loop-left-init : goal.loop-left-init
loop-left-init g c = record { refreshed = done; count = omega arith; risen = omega arith; counted = omega arith; inside = omega arith }

pub returns-in_default-clause-refresh : goal.returns-in_default-clause-refresh
returns-in_default-clause-refresh g c =
    let w = c.loop-left.invariant in
    let grid : Grid = g.B.Bricks.grid c.args.bricks.now in
    let samples : List ℤ = g.B.Bricks.samples c.args.bricks.now in
    let e = ended grid samples c.args.level c.args.cache.now c.loop-left.from c.args.n w.inside c.in_default.ensures.next (omega (arith, w.count)) in
    subst (λ l. Refresh grid samples c.args.level c.args.cache.now l c.loop-left.cache) (sym e.0) w.refreshed

pub returns-in_default-clause-bound : goal.returns-in_default-clause-bound
returns-in_default-clause-bound g c =
    let w = c.loop-left.invariant in
    let grid : Grid = g.B.Bricks.grid c.args.bricks.now in
    let samples : List ℤ = g.B.Bricks.samples c.args.bricks.now in
    let e = ended grid samples c.args.level c.args.cache.now c.loop-left.from c.args.n w.inside c.in_default.ensures.next (omega (arith, w.count)) in
    subst (λ k. c.loop-left.steps ≤ c.args.steps.now + 512 * k) (sym e.1) w.counted

pub returns-in_default-clause-least : goal.returns-in_default-clause-least
returns-in_default-clause-least g c = c.loop-left.invariant.risen

pub offer-requires-clause-none : goal.offer-requires-clause-none
offer-requires-clause-none g c =
    stale_by (kept_at c.in-Some.brick.0 c.args.level c.loop-left.cache.items) c.kept.result c.kept.ensures.count (c.is_none.ensures ∙ ap not c.if-is_none.true)

pub loop-left-preserved : goal.loop-left-preserved
loop-left-preserved g c =
    let inv = c.loop-left.invariant in
    let grid : Grid = g.B.Bricks.grid c.args.bricks.now in
    let samples : List ℤ = g.B.Bricks.samples c.args.bricks.now in
    let before : Cache = c.args.cache.now in
    let now : Cache = c.loop-left.cache in
    let from : ℕ = c.loop-left.from in
    let brick : ℕ = c.in-Some.brick.0 in
    let first : IsFirst (is_active grid (field samples c.args.level)) from (brick_count grid) brick = c.in-Some.ensures.next in
    let high : brick < brick_count grid = first.high in
    let count : length (waited grid samples c.args.level before from) + c.loop-left.left ≡ c.args.n = inv.count in
    let counted : c.loop-left.steps ≤ c.args.steps.now + 512 * length (waited grid samples c.args.level before from) = inv.counted in
    elim c.if-is_none.branch [
      | then-is_none w ↦ (
          let stale : is_fresh brick c.args.level now.items ≡ false
          = ap is_some (stale_by (kept_at brick c.args.level now.items) c.kept.result c.kept.ensures.count (c.is_none.ensures ∙ ap not w.if-is_none.true)) in
          let put : Offers now (item_for grid samples c.args.level brick) w.offer.result w.offer.new.self
          = subst (λ es. Offers now (record { brick = brick; level = c.args.level; entries = es }) w.offer.result w.offer.new.self)
          (w.as_slice.ensures.value ∙ w.extract.ensures.entries) w.offer.ensures in
          let next = offered_next grid samples c.args.level before now w.offer.new.self from brick w.offer.result inv.refreshed first stale put in
          let more : length (waited grid samples c.args.level before (brick + 1)) ≡ length (waited grid samples c.args.level before from) + 1 = next.1 in
          let least : c.loop-left.steps ≤ w.extract.new.steps = w.extract.ensures.least in
          let raised : w.extract.new.steps ≤ c.loop-left.steps + 512 = w.extract.ensures.bound in
          let steps : c.if-is_none.steps ≡ w.extract.new.steps = w.steps-is in
          let left : c.if-is_none.left ≡ c.loop-left.left - 1 = w.left-is in
          record {
            refreshed = subst (Refresh grid samples c.args.level before (waited grid samples c.args.level before (brick + 1))) (sym w.cache-is) next.0;
            count = omega arith;
            risen = omega (arith, inv.risen);
            counted = omega arith;
            inside = omega arith;
          })
      | else-is_none w ↦ (
          let fresh = fresh_by (kept_at brick c.args.level now.items) c.kept.result c.kept.ensures.count (c.is_none.ensures ∙ ap not w.if-is_none.false) in
          let same = passed_over grid samples c.args.level before now from brick inv.refreshed first fresh in
          let size : length (waited grid samples c.args.level before (brick + 1)) ≡ length (waited grid samples c.args.level before from) = ap length same in
          let steps : c.if-is_none.steps ≡ c.loop-left.steps = w.steps-is in
          let left : c.if-is_none.left ≡ c.loop-left.left = w.left-is in
          record {
            refreshed = subst (Refresh grid samples c.args.level before (waited grid samples c.args.level before (brick + 1))) (sym w.cache-is)
                (subst (λ l. Refresh grid samples c.args.level before l now) (sym same) inv.refreshed);
            count = omega arith;
            risen = omega (arith, inv.risen);
            counted = omega arith;
            inside = omega arith;
          })
    ]

pub returns-clause-refresh : goal.returns-clause-refresh
returns-clause-refresh g c =
    let w = c.loop-left.invariant in
    let grid : Grid = g.B.Bricks.grid c.args.bricks.now in
    let samples : List ℤ = g.B.Bricks.samples c.args.bricks.now in
    let e = enough grid samples c.args.level c.args.cache.now c.loop-left.from c.args.n w.inside (omega (arith, w.count)) in
    subst (λ l. Refresh grid samples c.args.level c.args.cache.now l c.loop-left.cache) (sym e.0) w.refreshed

pub returns-clause-bound : goal.returns-clause-bound
returns-clause-bound g c =
    let w = c.loop-left.invariant in
    let grid : Grid = g.B.Bricks.grid c.args.bricks.now in
    let samples : List ℤ = g.B.Bricks.samples c.args.bricks.now in
    let e = enough grid samples c.args.level c.args.cache.now c.loop-left.from c.args.n w.inside (omega (arith, w.count)) in
    subst (λ k. c.loop-left.steps ≤ c.args.steps.now + 512 * k) (sym e.1) w.counted

pub returns-clause-least : goal.returns-clause-least
returns-clause-least g c = c.loop-left.invariant.risen
