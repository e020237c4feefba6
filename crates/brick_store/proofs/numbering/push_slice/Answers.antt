use Rattle.std.proofs.Common.{◌≡◌, ℕ, ◌+◌, ◌*◌, ◌∙◌, ap, ap₂, sym, map, zero-add, ◌<◌, arith}
use Rattle.iso_defs.specs.Grid.{Grid}
use Rattle.iso_defs.specs.Bricks.{bricks_along}
use Rattle.brick_store.specs.declared.numbering.BrickId.{BrickId}
use Rattle.brick_store.specs.Holding.{brick_at, first_holding}
use Rattle.brick_store.proofs.Reaching.{IsReach, end_low, slice_done, reached, row_put}
use Rattle.brick_store.proofs.numbering.push_slice.Goals as goal

pub loop-y-preserved : goal.loop-y-preserved
loop-y-preserved c =
    let g : Grid = c.args.sizes.now in
    let reach_x : IsReach g.nx c.args.p.x c.bricks_at-first_x.result.0 c.bricks_at-first_x.result.1 = record {
      first_is = c.bricks_at-first_x.ensures.first;
      end_is = rw c.nx.ensures.value at c.bricks_at-first_x.ensures.last;
      inside = c.requires.point.x;
      thick = c.nx.ensures.grid.x.least;
    } in
    let reach_y : IsReach g.ny c.args.p.y c.bricks_at-first_y.result.0 c.bricks_at-first_y.result.1 = record {
      first_is = c.bricks_at-first_y.ensures.first;
      end_is = rw c.ny.ensures.value at c.bricks_at-first_y.ensures.last;
      inside = c.requires.point.y;
      thick = c.ny.ensures.grid.y.least;
    } in
    let along_x : c.bricks_along-along_x.result ≡ bricks_along g 0 = rw c.nx-2.ensures.value at c.bricks_along-along_x.ensures.value in
    let along_y : c.bricks_along-along_y.result ≡ bricks_along g 1 = rw c.ny-2.ensures.value at c.bricks_along-along_y.ensures.value in
    let low : c.loop-y.y < bricks_along g 1 = (let h = end_low g.ny c.args.p.y _ _ reach_y in omega arith) in
    let start : c.bricks_along-along_x.result * (c.loop-y.y + c.bricks_along-along_y.result * c.args.z) ≡ brick_at g 0 c.loop-y.y c.args.z
    = ap₂ (λ (m n : ℕ). m * (c.loop-y.y + n * c.args.z)) along_x along_y ∙ sym (zero-add _) in
    record {
      bricks = row_put g c.args.p c.loop-y.y c.args.z _ c.bricks_at-first_x.result.0 c.bricks_at-first_x.result.1
          (map (λ (b : BrickId). b.0) c.loop-y.held.items) (map (λ (b : BrickId). b.0) c.push_run.new.held.items) low c.requires.slice reach_x
          (reached g.ny c.args.p.y _ _ reach_y c.loop-y.y (omega arith) (omega arith)) c.requires.reached start c.loop-y.invariant.bricks c.push_run.ensures.bricks;
      len = omega arith;
    }

pub returns-clause-bricks : goal.returns-clause-bricks
returns-clause-bricks c =
    let reach : IsReach c.args.sizes.now.ny c.args.p.y c.bricks_at-first_y.result.0 c.bricks_at-first_y.result.1 = record {
      first_is = c.bricks_at-first_y.ensures.first;
      end_is = rw c.ny.ensures.value at c.bricks_at-first_y.ensures.last;
      inside = c.requires.point.y;
      thick = c.ny.ensures.grid.y.least;
    } in
    let last : c.loop-y.y ≡ c.bricks_at-first_y.result.1 = omega arith in
    c.loop-y.invariant.bricks ∙ (ap (λ y. first_holding c.args.sizes.now c.args.p (brick_at c.args.sizes.now 0 y c.args.z)) last
    ∙ sym (slice_done c.args.sizes.now c.args.p c.args.z c.requires.slice c.requires.reached _ _ reach))
