use Rattle.std.proofs.Common.{◌≡◌, ◌+◌, ◌-◌, ◌*◌, ◌<◌, ◌≤◌, ◌∙◌, length, ap, sym, subst, arith}
use Rattle.iso_defs.specs.Bricks.{bricks_along}
use Rattle.iso_defs.specs.Grid.{Grid}
use Rattle.flat_mesh.specs.Lattice.{heights}
use Rattle.brick_rows.specs.Bricks.{IsNextFrom, IsPointRow}
use Rattle.brick_rows.specs.Rows.{AreZerosFrom}
use Rattle.mesh_rows.specs.Rows.{AreFlags, AreFlagsTo}
use Rattle.brick_rows.proofs.NextBricks.{at_row, first_of, noted}
use Rattle.brick_rows.proofs.StillFlags.{zeros_more}
use Rattle.brick_rows.proofs.points.flag_bricks.Goals as goal

pub next-x-requires-clause-least : goal.next-x-requires-clause-least
next-x-requires-clause-least g c =
    let v = c.args.field.now in
    let at = c.of-row.result in
    let row = subst (λ (g : Grid). IsPointRow g at) c.sizes-sizes.ensures.value c.of-row.ensures.row in
    let same = first_of v c.args.active.now at c.requires.active row c.of-row.ensures.y c.of-row.ensures.z in
    let count : c.bricks_along-last.result ≡ bricks_along v.grid 0
    = omega (arith, c.bricks_along-last.ensures.value, c.nx.ensures.value, ap (λ (g : Grid). g.nx) c.sizes-sizes.ensures.value) in
    let next = noted v c.sizes-sizes.ensures.leveled.grid c.args.active.now at.y at.z at.bricks row.y_low row.z_low row.bricks c.requires.active same 0 (omega (arith, count, c.sizes-sizes.ensures.leveled.grid.x.least)) in
    omega (arith, next.least, same)

pub loop-x-init : goal.loop-x-init
loop-x-init g c =
    let v = c.args.field.now in
    let at = c.of-row.result in
    let row = subst (λ (g : Grid). IsPointRow g at) c.sizes-sizes.ensures.value c.of-row.ensures.row in
    let same = first_of v c.args.active.now at c.requires.active row c.of-row.ensures.y c.of-row.ensures.z in
    let count : c.bricks_along-last.result ≡ bricks_along v.grid 0
    = omega (arith, c.bricks_along-last.ensures.value, c.nx.ensures.value, ap (λ (g : Grid). g.nx) c.sizes-sizes.ensures.value) in
    let next = noted v c.sizes-sizes.ensures.leveled.grid c.args.active.now at.y at.z at.bricks row.y_low row.z_low row.bricks c.requires.active same 0 (omega (arith, count, c.sizes-sizes.ensures.leveled.grid.x.least)) in
    let from = sym c.next-x.ensures ∙ ap (λ n. n + c.next-x.result) same in
    let long : length c.fill_zeros.new.flags ≡ v.grid.nx = omega (arith, c.fill_zeros.auto.flags, c.requires.flags) in
    record {
      flags = zeros_more v c.sizes-sizes.ensures.leveled at.y at.z row.y_low row.z_low at.bricks row.bricks 0 c.next-x.result c.fill_zeros.new.flags
          (omega (arith, count, c.sizes-sizes.ensures.leveled.grid.x.least)) (subst (IsNextFrom v.grid (heights v) (at.bricks.first + 0)) from next) long
          (λ k from low. c.fill_zeros.ensures k (omega arith) low) (λ k in_row low. absurd (omega arith));
      zeros = λ k from low. c.fill_zeros.ensures k (omega arith) low;
    }

pub next-x-requires-in-loop-x-clause-least : goal.next-x-requires-in-loop-x-clause-least
next-x-requires-in-loop-x-clause-least g c =
    let v = c.args.field.now in
    let at = c.of-row.result in
    let row = subst (λ (g : Grid). IsPointRow g at) c.sizes-sizes.ensures.value c.of-row.ensures.row in
    let same = first_of v c.args.active.now at c.requires.active row c.of-row.ensures.y c.of-row.ensures.z in
    let count : c.bricks_along-last.result ≡ bricks_along v.grid 0
    = omega (arith, c.bricks_along-last.ensures.value, c.nx.ensures.value, ap (λ (g : Grid). g.nx) c.sizes-sizes.ensures.value) in
    let next = noted v c.sizes-sizes.ensures.leveled.grid c.args.active.now at.y at.z at.bricks row.y_low row.z_low row.bricks c.requires.active same (c.loop-x.x + 1) (omega (arith, count, c.loop-x-test.true)) in
    omega (arith, next.least, same)

pub loop-x-smaller : goal.loop-x-smaller
loop-x-smaller g c =
    let v = c.args.field.now in
    let at = c.of-row.result in
    let row = subst (λ (g : Grid). IsPointRow g at) c.sizes-sizes.ensures.value c.of-row.ensures.row in
    let same = first_of v c.args.active.now at c.requires.active row c.of-row.ensures.y c.of-row.ensures.z in
    let count : c.bricks_along-last.result ≡ bricks_along v.grid 0
    = omega (arith, c.bricks_along-last.ensures.value, c.nx.ensures.value, ap (λ (g : Grid). g.nx) c.sizes-sizes.ensures.value) in
    let next = noted v c.sizes-sizes.ensures.leveled.grid c.args.active.now at.y at.z at.bricks row.y_low row.z_low row.bricks c.requires.active same (c.loop-x.x + 1) (omega (arith, count, c.loop-x-test.true)) in
    omega (arith, next.least, same, c.next-x-in-loop-x.ensures, c.loop-x-test.true)

pub loop-x-preserved : goal.loop-x-preserved
loop-x-preserved g c =
    let v = c.args.field.now in
    let at = c.of-row.result in
    let row = subst (λ (g : Grid). IsPointRow g at) c.sizes-sizes.ensures.value c.of-row.ensures.row in
    let same = first_of v c.args.active.now at c.requires.active row c.of-row.ensures.y c.of-row.ensures.z in
    let count : c.bricks_along-last.result ≡ bricks_along v.grid 0
    = omega (arith, c.bricks_along-last.ensures.value, c.nx.ensures.value, ap (λ (g : Grid). g.nx) c.sizes-sizes.ensures.value) in
    let next = noted v c.sizes-sizes.ensures.leveled.grid c.args.active.now at.y at.z at.bricks row.y_low row.z_low row.bricks c.requires.active same (c.loop-x.x + 1) (omega (arith, count, c.loop-x-test.true)) in
    let from = sym c.next-x-in-loop-x.ensures ∙ ap (λ n. n + c.next-x-in-loop-x.result) same in
    let behind : 8 * c.loop-x.x + 8 ≡ 8 * (c.loop-x.x + 1) = omega arith in
    let long : length c.brick_flags.new.flags ≡ v.grid.nx = omega (arith, c.brick_flags.auto.flags, c.loop-x.auto.flags, c.fill_zeros.auto.flags, c.requires.flags) in
    let further : c.loop-x.x + 1 ≤ c.next-x-in-loop-x.result = omega (arith, next.least, same, c.next-x-in-loop-x.ensures) in
    record {
      flags = zeros_more v c.sizes-sizes.ensures.leveled at.y at.z row.y_low row.z_low at.bricks row.bricks (c.loop-x.x + 1) c.next-x-in-loop-x.result c.brick_flags.new.flags
          (omega (arith, count, c.loop-x-test.true)) (subst (IsNextFrom v.grid (heights v) (at.bricks.first + (c.loop-x.x + 1))) from next) long
          (subst (λ n. AreZerosFrom n c.brick_flags.new.flags) behind c.brick_flags.ensures.zeros)
          (subst (λ n. AreFlagsTo v at.y at.z n c.brick_flags.new.flags) behind c.brick_flags.ensures.flags);
      zeros = λ k from low. c.brick_flags.ensures.zeros k (omega (arith, from, further)) low;
    }

pub brick_flags-requires-clause-row : goal.brick_flags-requires-clause-row
brick_flags-requires-clause-row g c = subst (λ (g : Grid). IsPointRow g c.of-row.result) c.sizes-sizes.ensures.value c.of-row.ensures.row

pub last_flags-requires-clause-row : goal.last_flags-requires-clause-row
last_flags-requires-clause-row g c = subst (λ (g : Grid). IsPointRow g c.of-row.result) c.sizes-sizes.ensures.value c.of-row.ensures.row

pub last_flags-requires-clause-before : goal.last_flags-requires-clause-before
last_flags-requires-clause-before g c =
    subst (λ n. AreFlagsTo c.args.field.now c.of-row.result.y c.of-row.result.z (8 * n) c.loop-x.flags) c.if-x-last.true c.loop-x.invariant.flags.first

pub returns-then-x-last : goal.returns-then-x-last
returns-then-x-last g c =
    at_row (λ y z. AreFlags c.args.field.now y z c.last_flags.new.flags) _ _ _ _ c.of-row.ensures.y c.of-row.ensures.z c.last_flags.ensures

pub returns-else-x-last : goal.returns-else-x-last
returns-else-x-last g c =
    let v = c.args.field.now in
    let beyond : c.bricks_along-last.result - 1 < c.loop-x.x = omega (arith, c.loop-x-test.false, c.if-x-last.false) in
    let nx = ap (λ (g : Grid). g.nx) c.sizes-sizes.ensures.value in
    at_row (λ y z. AreFlags v y z c.loop-x.flags) _ _ _ _ c.of-row.ensures.y c.of-row.ensures.z
    (c.loop-x.invariant.flags.all (omega (arith, beyond, c.bricks_along-last.ensures.value, c.nx.ensures.value, nx)))
