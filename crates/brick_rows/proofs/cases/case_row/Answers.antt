use Rattle.std.proofs.Common.{◌≡◌, ℕ, ◌+◌, ◌-◌, ◌*◌, ◌<◌, ◌≤◌, length, min, sym, subst, ap, ◌∙◌, arith, refl}
use Rattle.iso_defs.specs.Bricks.{bricks_along}
use Rattle.iso_defs.specs.Grid.{Grid}
use Rattle.flat_mesh.specs.Lattice.{heights}
use Rattle.brick_rows.specs.Bricks.{IsActive, IsPointRow}
use Rattle.brick_rows.specs.Named.{Named, asked_along, asked_among}
use Rattle.brick_rows.specs.Rows.{AreZerosFrom}
use Rattle.mesh_rows.specs.Rows.{AreCases, AreCasesTo}
use Rattle.brick_rows.proofs.Asked.{asked_more}
use Rattle.brick_rows.proofs.NextBricks.{at_row, first_of}
use Rattle.brick_rows.proofs.NextCases.{asked_all, asked_to, is_active_at, least_of, next_is, quiet_more}
use Rattle.brick_rows.proofs.cases.case_row.Goals as goal

-- where a place of a row is the lesser one
at_place : (x n : ℕ) → x ≤ n → min x n ≡ x
at_place x n low = omega arith

pub next-x-requires-clause-least : goal.next-x-requires-clause-least
next-x-requires-clause-least g c =
    let v = c.args.field.now in
    let grid = c.sizes-sizes.ensures.leveled.grid in
    let at = c.of-row.result in
    let row = subst (λ (g : Grid). IsPointRow g at) c.sizes-sizes.ensures.value c.of-row.ensures.row in
    let up : at.y + 1 < v.grid.ny = omega (arith, c.of-row.ensures.y, c.requires.y) in
    let far : at.z + 1 < v.grid.nz = omega (arith, c.of-row.ensures.z, c.requires.z) in
    let first = first_of v c.args.active.now at c.requires.active row c.of-row.ensures.y c.of-row.ensures.z in
    let some : 0 < bricks_along v.grid 0 = let least = grid.x.least in omega arith in
    least_of v grid at.y at.z up far at.bricks row.bricks c.args.active.now c.requires.active first 0 some

pub loop-x-init : goal.loop-x-init
loop-x-init g c =
    let v = c.args.field.now in
    let grid = c.sizes-sizes.ensures.leveled.grid in
    let at = c.of-row.result in
    let row = subst (λ (g : Grid). IsPointRow g at) c.sizes-sizes.ensures.value c.of-row.ensures.row in
    let up : at.y + 1 < v.grid.ny = omega (arith, c.of-row.ensures.y, c.requires.y) in
    let far : at.z + 1 < v.grid.nz = omega (arith, c.of-row.ensures.z, c.requires.z) in
    let first = first_of v c.args.active.now at c.requires.active row c.of-row.ensures.y c.of-row.ensures.z in
    let some : 0 < bricks_along v.grid 0 = let least = grid.x.least in omega arith in
    let next = next_is v grid at.y at.z up far at.bricks row.bricks c.args.active.now c.requires.active first
    0 c.next-x.result some c.next-x.ensures in
    let zeros = c.fill_zeros.ensures in
    let long : length c.fill_zeros.new.out ≡ v.grid.nx = omega (arith, c.fill_zeros.auto.out, c.requires.cases) in
    record {
      active = λ known. record { is = next.active known };
      cases = quiet_more v grid at.y at.z up far at.bricks row.bricks 0 c.next-x.result c.fill_zeros.new.out next long
          (λ k from low. zeros k (omega arith) low) (λ k in_row low. absurd (omega arith));
      zeros = λ k from low. zeros k (omega arith) low;
      same = refl;
      least = omega arith;
      most = omega arith;
    }

pub active_cases-requires-clause-active : goal.active_cases-requires-clause-active
active_cases-requires-clause-active g c =
    let v = c.args.field.now in
    let grid = c.sizes-sizes.ensures.leveled.grid in
    let at = c.of-row.result in
    let row = subst (λ (g : Grid). IsPointRow g at) c.sizes-sizes.ensures.value c.of-row.ensures.row in
    let up : at.y + 1 < v.grid.ny = omega (arith, c.of-row.ensures.y, c.requires.y) in
    let far : at.z + 1 < v.grid.nz = omega (arith, c.of-row.ensures.z, c.requires.z) in
    let first = first_of v c.args.active.now at c.requires.active row c.of-row.ensures.y c.of-row.ensures.z in
    let count : c.bricks_along-last.result ≡ bricks_along v.grid 0
    = omega (arith, c.bricks_along-last.ensures.value, c.nx.ensures.value, ap (λ (g : Grid). g.nx) c.sizes-sizes.ensures.value) in
    is_active_at v grid at.y at.z up far at.bricks row.bricks c.loop-x.x (omega (arith, count, c.loop-x-test.true)) c.loop-x.invariant.active

pub next-x-requires-in-loop-x-clause-least : goal.next-x-requires-in-loop-x-clause-least
next-x-requires-in-loop-x-clause-least g c =
    let v = c.args.field.now in
    let grid = c.sizes-sizes.ensures.leveled.grid in
    let at = c.of-row.result in
    let row = subst (λ (g : Grid). IsPointRow g at) c.sizes-sizes.ensures.value c.of-row.ensures.row in
    let up : at.y + 1 < v.grid.ny = omega (arith, c.of-row.ensures.y, c.requires.y) in
    let far : at.z + 1 < v.grid.nz = omega (arith, c.of-row.ensures.z, c.requires.z) in
    let first = first_of v c.args.active.now at c.requires.active row c.of-row.ensures.y c.of-row.ensures.z in
    let count : c.bricks_along-last.result ≡ bricks_along v.grid 0
    = omega (arith, c.bricks_along-last.ensures.value, c.nx.ensures.value, ap (λ (g : Grid). g.nx) c.sizes-sizes.ensures.value) in
    let low : c.loop-x.x + 1 < bricks_along v.grid 0 = omega (arith, count, c.loop-x-test.true) in
    least_of v grid at.y at.z up far at.bricks row.bricks c.args.active.now c.requires.active first (c.loop-x.x + 1) low

pub loop-x-smaller : goal.loop-x-smaller
loop-x-smaller g c =
    let v = c.args.field.now in
    let grid = c.sizes-sizes.ensures.leveled.grid in
    let at = c.of-row.result in
    let row = subst (λ (g : Grid). IsPointRow g at) c.sizes-sizes.ensures.value c.of-row.ensures.row in
    let up : at.y + 1 < v.grid.ny = omega (arith, c.of-row.ensures.y, c.requires.y) in
    let far : at.z + 1 < v.grid.nz = omega (arith, c.of-row.ensures.z, c.requires.z) in
    let first = first_of v c.args.active.now at c.requires.active row c.of-row.ensures.y c.of-row.ensures.z in
    let count : c.bricks_along-last.result ≡ bricks_along v.grid 0
    = omega (arith, c.bricks_along-last.ensures.value, c.nx.ensures.value, ap (λ (g : Grid). g.nx) c.sizes-sizes.ensures.value) in
    let low : c.loop-x.x + 1 < bricks_along v.grid 0 = omega (arith, count, c.loop-x-test.true) in
    let next = next_is v grid at.y at.z up far at.bricks row.bricks c.args.active.now c.requires.active first
    (c.loop-x.x + 1) c.next-x-in-loop-x.result low c.next-x-in-loop-x.ensures in
    omega (arith, next.least, c.loop-x-test.true)

pub loop-x-preserved : goal.loop-x-preserved
loop-x-preserved g c =
    let v = c.args.field.now in
    let grid = c.sizes-sizes.ensures.leveled.grid in
    let at = c.of-row.result in
    let row = subst (λ (g : Grid). IsPointRow g at) c.sizes-sizes.ensures.value c.of-row.ensures.row in
    let up : at.y + 1 < v.grid.ny = omega (arith, c.of-row.ensures.y, c.requires.y) in
    let far : at.z + 1 < v.grid.nz = omega (arith, c.of-row.ensures.z, c.requires.z) in
    let first = first_of v c.args.active.now at c.requires.active row c.of-row.ensures.y c.of-row.ensures.z in
    let count : c.bricks_along-last.result ≡ bricks_along v.grid 0
    = omega (arith, c.bricks_along-last.ensures.value, c.nx.ensures.value, ap (λ (g : Grid). g.nx) c.sizes-sizes.ensures.value) in
    let names : Named = g.R.CellRows.named c.args.rows.now in
    let x = c.loop-x.x in
    let low : c.loop-x.x + 1 < bricks_along v.grid 0 = omega (arith, count, c.loop-x-test.true) in
    let next = next_is v grid at.y at.z up far at.bricks row.bricks c.args.active.now c.requires.active first
    (c.loop-x.x + 1) c.next-x-in-loop-x.result low c.next-x-in-loop-x.ensures in
    let further : c.loop-x.x + 1 ≤ c.next-x-in-loop-x.result = let least = next.least in omega arith in
    let behind : 8 * c.loop-x.x + 8 ≡ 8 * (c.loop-x.x + 1) = omega arith in
    let long : length c.active_cases.new.cases ≡ v.grid.nx
    = omega (arith, c.active_cases.auto.cases, c.loop-x.auto.cases, c.fill_zeros.auto.out, c.requires.cases) in
    let same = c.loop-x.invariant.same in
    let one = subst (λ (names : Named). c.active_cases.new.steps ≤ c.loop-x.steps + 8 * asked_among v.grid (heights v) names (at.bricks.first + x) 1) same
    c.active_cases.ensures.most in
    let here = ap (asked_among v.grid (heights v) names at.bricks.first) (sym (at_place x (bricks_along v.grid 0) (omega (arith, low)))) in
    record {
      active = λ known. record { is = next.active known };
      cases = quiet_more v grid at.y at.z up far at.bricks row.bricks (c.loop-x.x + 1) c.next-x-in-loop-x.result
          c.active_cases.new.cases next long
          (subst (λ n. AreZerosFrom n c.active_cases.new.cases) behind c.active_cases.ensures.zeros)
          (subst (λ n. AreCasesTo v at.y at.z n c.active_cases.new.cases) behind c.active_cases.ensures.cases);
      zeros = λ k from low. c.active_cases.ensures.zeros k (omega (arith, from, further)) low;
      same = c.active_cases.ensures.same ∙ same;
      least = omega (arith, c.loop-x.invariant.least, c.active_cases.ensures.least);
      most = omega (
        arith,
        asked_to v grid at.y at.z up far at.bricks row.bricks names (c.loop-x.x + 1) c.next-x-in-loop-x.result (omega (arith, low)) next,
        asked_more v.grid (heights v) names at.bricks.first x 1,
        one,
        here,
        c.loop-x.invariant.most,
      );
    }

pub active_cases-requires-then-x-last-clause-active : goal.active_cases-requires-then-x-last-clause-active
active_cases-requires-then-x-last-clause-active g c =
    let v = c.args.field.now in
    let grid = c.sizes-sizes.ensures.leveled.grid in
    let at = c.of-row.result in
    let row = subst (λ (g : Grid). IsPointRow g at) c.sizes-sizes.ensures.value c.of-row.ensures.row in
    let up : at.y + 1 < v.grid.ny = omega (arith, c.of-row.ensures.y, c.requires.y) in
    let far : at.z + 1 < v.grid.nz = omega (arith, c.of-row.ensures.z, c.requires.z) in
    let first = first_of v c.args.active.now at c.requires.active row c.of-row.ensures.y c.of-row.ensures.z in
    let count : c.bricks_along-last.result ≡ bricks_along v.grid 0
    = omega (arith, c.bricks_along-last.ensures.value, c.nx.ensures.value, ap (λ (g : Grid). g.nx) c.sizes-sizes.ensures.value) in
    subst (λ n. IsActive v (at.bricks.first + n)) c.if-x-last.true
    (is_active_at v grid at.y at.z up far at.bricks row.bricks c.loop-x.x (omega (arith, count, c.if-x-last.true)) c.loop-x.invariant.active)

pub active_cases-requires-then-x-last-clause-before : goal.active_cases-requires-then-x-last-clause-before
active_cases-requires-then-x-last-clause-before g c =
    subst (λ n. AreCasesTo c.args.field.now c.of-row.result.y c.of-row.result.z (8 * n) c.loop-x.cases) c.if-x-last.true c.loop-x.invariant.cases

pub active_cases-requires-then-x-last-clause-zeros : goal.active_cases-requires-then-x-last-clause-zeros
active_cases-requires-then-x-last-clause-zeros g c = subst (λ n. AreZerosFrom (8 * n) c.loop-x.cases) c.if-x-last.true c.loop-x.invariant.zeros

pub returns-then-x-last-clause-cases : goal.returns-then-x-last-clause-cases
returns-then-x-last-clause-cases g c =
    let size = ap (λ (g : Grid). g.nx) c.sizes-sizes.ensures.value in
    at_row (λ y z. AreCases c.args.field.now y z c.active_cases-then-x-last.new.cases) _ _ _ _ c.of-row.ensures.y c.of-row.ensures.z
    (λ x in_row low. c.active_cases-then-x-last.ensures.cases x in_row (omega (arith, c.bricks_along-last.ensures.value, c.nx.ensures.value, size)))

pub returns-then-x-last-clause-most : goal.returns-then-x-last-clause-most
returns-then-x-last-clause-most g c =
    let v = c.args.field.now in
    let grid = c.sizes-sizes.ensures.leveled.grid in
    let at = c.of-row.result in
    let row = subst (λ (g : Grid). IsPointRow g at) c.sizes-sizes.ensures.value c.of-row.ensures.row in
    let up : at.y + 1 < v.grid.ny = omega (arith, c.of-row.ensures.y, c.requires.y) in
    let far : at.z + 1 < v.grid.nz = omega (arith, c.of-row.ensures.z, c.requires.z) in
    let first = first_of v c.args.active.now at c.requires.active row c.of-row.ensures.y c.of-row.ensures.z in
    let count : c.bricks_along-last.result ≡ bricks_along v.grid 0
    = omega (arith, c.bricks_along-last.ensures.value, c.nx.ensures.value, ap (λ (g : Grid). g.nx) c.sizes-sizes.ensures.value) in
    let names : Named = g.R.CellRows.named c.args.rows.now in
    let last = c.bricks_along-last.result - 1 in
    let same = c.loop-x.invariant.same in
    let one = subst (λ (names : Named). c.active_cases-then-x-last.new.steps ≤ c.loop-x.steps + 8 * asked_among v.grid (heights v) names (at.bricks.first + last) 1)
    same c.active_cases-then-x-last.ensures.most in
    let here = ap (asked_among v.grid (heights v) names at.bricks.first)
    (at_place c.loop-x.x (bricks_along v.grid 0) (omega (arith, count, c.if-x-last.true)) ∙ c.if-x-last.true) in
    let all = at_row (λ y z. asked_among v.grid (heights v) names at.bricks.first (last + 1) ≡ asked_along v.grid (heights v) names y z)
    _ _ _ _ c.of-row.ensures.y c.of-row.ensures.z
    (asked_all v grid at.y at.z up far at.bricks row.bricks names (last + 1) (omega (arith, count, c.bricks_along-last.ensures.value, c.nx.ensures.grid))) in
    omega (arith, asked_more v.grid (heights v) names at.bricks.first last 1, one, here, all, c.loop-x.invariant.most)

pub returns-else-x-last-clause-cases : goal.returns-else-x-last-clause-cases
returns-else-x-last-clause-cases g c =
    let size = ap (λ (g : Grid). g.nx) c.sizes-sizes.ensures.value in
    let beyond : c.bricks_along-last.result - 1 < c.loop-x.x = omega (arith, c.loop-x-test.false, c.if-x-last.false) in
    at_row (λ y z. AreCases c.args.field.now y z c.loop-x.cases) _ _ _ _ c.of-row.ensures.y c.of-row.ensures.z
    (λ x in_row low. c.loop-x.invariant.cases x in_row (omega (arith, beyond, c.bricks_along-last.ensures.value, c.nx.ensures.value, size)))

pub returns-else-x-last-clause-most : goal.returns-else-x-last-clause-most
returns-else-x-last-clause-most g c =
    let v = c.args.field.now in
    let grid = c.sizes-sizes.ensures.leveled.grid in
    let at = c.of-row.result in
    let row = subst (λ (g : Grid). IsPointRow g at) c.sizes-sizes.ensures.value c.of-row.ensures.row in
    let up : at.y + 1 < v.grid.ny = omega (arith, c.of-row.ensures.y, c.requires.y) in
    let far : at.z + 1 < v.grid.nz = omega (arith, c.of-row.ensures.z, c.requires.z) in
    let first = first_of v c.args.active.now at c.requires.active row c.of-row.ensures.y c.of-row.ensures.z in
    let count : c.bricks_along-last.result ≡ bricks_along v.grid 0
    = omega (arith, c.bricks_along-last.ensures.value, c.nx.ensures.value, ap (λ (g : Grid). g.nx) c.sizes-sizes.ensures.value) in
    let names : Named = g.R.CellRows.named c.args.rows.now in
    let all : min c.loop-x.x (bricks_along v.grid 0) ≡ bricks_along v.grid 0 = omega (arith, count, c.loop-x-test.false, c.if-x-last.false) in
    let end : ℕ = min c.loop-x.x (bricks_along v.grid 0) in
    let whole = at_row (λ y z. asked_among v.grid (heights v) names at.bricks.first end ≡ asked_along v.grid (heights v) names y z)
    _ _ _ _ c.of-row.ensures.y c.of-row.ensures.z
    (asked_all v grid at.y at.z up far at.bricks row.bricks names end all) in
    omega (arith, whole, c.loop-x.invariant.most)
