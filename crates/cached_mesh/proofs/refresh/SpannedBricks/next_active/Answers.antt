use Rattle.std.proofs.Common.{◌<◌, ◌^◌, Some, None, subst, arith}
use Rattle.std.specs.Prelude.{IfSome, Option}
use Rattle.iso_defs.specs.Bricks.{brick_count, is_active}
use Rattle.iso_base.specs.Volume.{field, Volume}
use Rattle.brick_store.specs.Next.{IsNext}
use Rattle.brick_store.specs.declared.numbering.BrickId.{BrickId}
use Rattle.brick_store.proofs.Standing.{few_bricks}
use Rattle.cached_mesh.proofs.refresh.SpannedBricks.next_active.Goals as goal

pub returns-clause-next : goal.returns-clause-next
returns-clause-next c =
    let v : Volume = c.self.inside.store.now in
    subst (λ (w : Volume). IsNext (is_active w.grid (field w.samples c.args.level)) c.args.from (brick_count w.grid) c.next_active.result) c.self.view_is
    (c.next_active.ensures.active v c.sizes.ensures.volume c.self.invariant)

pub returns-clause-few : goal.returns-clause-few
returns-clause-few c =
    let v : Volume = c.self.inside.store.now in
    few c.next_active.result (c.next_active.ensures.active v c.sizes.ensures.volume c.self.invariant)
  where
    few : (next : Option BrickId) → IsNext (is_active c.self.inside.store.now.grid (field c.self.inside.store.now.samples c.args.level)) c.args.from (brick_count c.self.inside.store.now.grid) next
        → IfSome next (λ (brick : BrickId). brick.0 < 2 ^ 22)
    few None h = tt
    few (Some brick) h = let high = h.high in omega (arith, few_bricks c.self.inside.store.now.grid c.sizes.ensures.volume.grid)
