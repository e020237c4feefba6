use Rattle.std.proofs.Common.{◌≡◌, ◌<◌, ap, arith}
use Rattle.iso_defs.specs.Bricks.{bricks_along}
use Rattle.iso_defs.specs.Grid.{Grid}
use Rattle.brick_rows.proofs.NextBricks.{first_is}
use Rattle.brick_rows.proofs.StillRows.{noted_from, still_none, still_to}
use Rattle.brick_rows.proofs.active.ActiveRow.next_from.Goals as goal

pub next-requires-clause-least : goal.next-requires-clause-least
next-requires-clause-least c =
    let first = first_is c.args.field.now c.args.self.now c.requires.y c.requires.z c.requires.active in
    let v = c.args.field.now in
    let count : c.bricks_along.result ≡ bricks_along v.grid 0 = omega (arith, c.bricks_along.ensures.value, c.nx.ensures.value, ap (λ (g : Grid). g.nx) c.sizes-sizes.ensures.value) in
    let low : c.args.x < bricks_along v.grid 0 = omega (arith, count, c.if-x-bricks_along.true) in
    let next = noted_from v c.args.self.now c.args.self.now.y c.args.self.now.z c.requires.y c.requires.z c.requires.active first c.sizes-sizes.ensures.leveled.grid c.args.x low in
    omega (arith, next.least, first)

pub returns-then-x-bricks_along : goal.returns-then-x-bricks_along
returns-then-x-bricks_along c =
    let first = first_is c.args.field.now c.args.self.now c.requires.y c.requires.z c.requires.active in
    let v = c.args.field.now in
    let count : c.bricks_along.result ≡ bricks_along v.grid 0 = omega (arith, c.bricks_along.ensures.value, c.nx.ensures.value, ap (λ (g : Grid). g.nx) c.sizes-sizes.ensures.value) in
    let low : c.args.x < bricks_along v.grid 0 = omega (arith, count, c.if-x-bricks_along.true) in
    still_to v c.args.self.now c.args.self.now.y c.args.self.now.z c.requires.y c.requires.z c.requires.active first c.args.x c.next.result c.sizes-sizes.ensures.leveled low c.next.ensures

pub returns-else-x-bricks_along : goal.returns-else-x-bricks_along
returns-else-x-bricks_along c =
    let v = c.args.field.now in
    let count : c.bricks_along.result ≡ bricks_along v.grid 0 = omega (arith, c.bricks_along.ensures.value, c.nx.ensures.value, ap (λ (g : Grid). g.nx) c.sizes-sizes.ensures.value) in
    still_none v c.args.self.now.y c.args.self.now.z c.args.x (omega (arith, count, c.if-x-bricks_along.false))
