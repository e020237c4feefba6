use Rattle.std.proofs.Common.{◌≡◌, ◌≤◌, ◌∙◌, ap, leb, arith}
use Rattle.std.proofs.lemmas.Bool.{leb-true}
use Rattle.iso_defs.specs.Bricks.{bricks_along}
use Rattle.iso_defs.specs.Grid.{Grid}
use Rattle.brick_rows.proofs.NextBricks.{first_is}
use Rattle.brick_rows.proofs.StillRows.{noted_from, row_active, row_still}
use Rattle.brick_rows.proofs.active.ActiveRow.is_still.Goals as goal

pub next-requires-clause-least : goal.next-requires-clause-least
next-requires-clause-least c =
    let first = first_is c.args.field.now c.args.self.now c.requires.y c.requires.z c.requires.active in
    let is = c.sizes-sizes.ensures.leveled.grid in
    let next = noted_from c.args.field.now c.args.self.now c.args.self.now.y c.args.self.now.z c.requires.y c.requires.z c.requires.active first is 0 (let least = is.x.least in omega arith) in
    omega (arith, next.least, first)

pub returns-clause-still : goal.returns-clause-still
returns-clause-still c = λ t.
    let first = first_is c.args.field.now c.args.self.now c.requires.y c.requires.z c.requires.active in
    let v = c.args.field.now in
    let count : c.bricks_along.result ≡ bricks_along v.grid 0 = omega (arith, c.bricks_along.ensures.value, c.nx.ensures.value, ap (λ (g : Grid). g.nx) c.sizes-sizes.ensures.value) in
    let behind : c.bricks_along.result ≤ c.next.result = leb-true _ _ t in
    row_still v c.args.self.now c.args.self.now.y c.args.self.now.z c.requires.y c.requires.z c.requires.active first c.next.result c.sizes-sizes.ensures.leveled c.next.ensures (omega (arith, count, behind))

pub returns-clause-active : goal.returns-clause-active
returns-clause-active c =
    let first = first_is c.args.field.now c.args.self.now c.requires.y c.requires.z c.requires.active in
    let v = c.args.field.now in
    let count : c.bricks_along.result ≡ bricks_along v.grid 0 = omega (arith, c.bricks_along.ensures.value, c.nx.ensures.value, ap (λ (g : Grid). g.nx) c.sizes-sizes.ensures.value) in
    ap (λ n. leb n c.next.result) count
    ∙ row_active v c.args.self.now c.args.self.now.y c.args.self.now.z c.requires.y c.requires.z c.requires.active first c.next.result c.sizes-sizes.ensures.leveled.grid c.next.ensures
