use Rattle.std.proofs.Common.{◌≡◌, ◌+◌, ◌*◌, ◌<◌, ◌∙◌, ap, ap₂, subst, arith}
use Rattle.iso_defs.specs.Bricks.{bricks_along}
use Rattle.iso_defs.specs.Grid.{Grid}
use Rattle.brick_rows.specs.Bricks.{AreNextTo, first_brick}
use Rattle.brick_rows.proofs.NextBricks.{few_in_slice}
use Rattle.brick_rows.proofs.Places.{brick_in, few_bricks}
use Rattle.brick_rows.proofs.active.mark_slice.Goals as goal

pub mark_bricks-requires-clause-first : goal.mark_bricks-requires-clause-first
mark_bricks-requires-clause-first c =
    let v = c.args.field.now in
    let grid = c.sizes-sizes.ensures.leveled.grid in
    let wide : 8 * 0 + 1 < v.grid.nx = let least = grid.x.least in omega arith in
    let some : 0 < v.grid.ny = let least = grid.y.least in omega arith in
    let first = c.of-row.ensures.first ∙ ap (λ (g : Grid). first_brick g 0 c.args.z) c.sizes-sizes.ensures.value in
    omega (arith, first, brick_in v.grid grid 0 0 c.args.z wide some c.requires.z, few_bricks v.grid grid)

pub mark_bricks-requires-clause-count : goal.mark_bricks-requires-clause-count
mark_bricks-requires-clause-count c = few_in_slice c.bricks_along.result c.bricks_along-2.result c.bricks_along.ensures.bound c.bricks_along-2.ensures.bound

pub mark_bricks-requires-clause-room : goal.mark_bricks-requires-clause-room
mark_bricks-requires-clause-room c = omega (arith, few_in_slice c.bricks_along.result c.bricks_along-2.result c.bricks_along.ensures.bound c.bricks_along-2.ensures.bound)

pub returns-clause-marked : goal.returns-clause-marked
returns-clause-marked c =
    let v = c.args.field.now in
    let x : c.bricks_along.result ≡ bricks_along v.grid 0 = omega (arith, c.bricks_along.ensures.value, c.nx.ensures.value, ap (λ (g : Grid). g.nx) c.sizes-sizes.ensures.value) in
    let y : c.bricks_along-2.result ≡ bricks_along v.grid 1 = omega (arith, c.bricks_along-2.ensures.value, c.ny.ensures.value, ap (λ (g : Grid). g.ny) c.sizes-sizes.ensures.value) in
    subst (λ n. AreNextTo v c.of-row.result.first n c.mark_bricks.new.next_from) (ap₂ ◌*◌ x y) c.mark_bricks.ensures
