use Rattle.std.proofs.Common.{◌≡◌, ◌∙◌, ◌+◌, ◌*◌, ◌<◌, ◌≤◌, ℕ, refl, sym, ap, subst, arith}
use Rattle.std.proofs.Math.Nat.{mul-add}
use Rattle.iso_defs.specs.Grid.{Grid}
use Rattle.flat_mesh.specs.Lattice.{Leveled, heights}
use Rattle.flat_mesh.specs.Rows.{row_start}
use Rattle.brick_rows.specs.Named.{Named, NamesCases}
use Rattle.component_walk.specs.Asked.{asked_at, asked_before}
use Rattle.component_walk.specs.Rows.{IsAt}
use Rattle.component_walk.proofs.AskedLaws.{row_more, rows_grow}
use Rattle.component_walk.proofs.RowLaws.{at_moved, start_next}
use Rattle.component_walk.proofs.rows.RowWalk.walk_slice.Goals as goal

pub loop-y-init : goal.loop-y-init
loop-y-init g c =
    let v = c.args.self.now.field in
    record {
      same = refl;
      least = omega arith;
      most = omega arith;
      at = at_moved g.T.Tally.value g.T.Tally.fits g.T.Tally.of_loop v (v.grid.ny * c.args.z) (0 + v.grid.ny * c.args.z) (row_start v.grid 0 c.args.z) (row_start v.grid 0 c.args.z) c.args.self.now (omega arith) refl c.requires.state;
    }

pub walk_row-requires-clause-y : goal.walk_row-requires-clause-y
walk_row-requires-clause-y g c =
    let ny = c.ny-y-end.ensures.value ∙ ap (λ (s : Grid). s.ny) c.sizes-sizes.ensures.value in
    let same = ap (λ (v : Leveled). v.grid.ny) c.loop-y.invariant.at.field in
    omega (arith, c.loop-y-test.true, ny, same)

pub walk_row-requires-clause-z : goal.walk_row-requires-clause-z
walk_row-requires-clause-z g c = subst (λ (v : Leveled). c.args.z < v.grid.nz) (sym c.loop-y.invariant.at.field) c.requires.z

pub walk_row-requires-clause-named : goal.walk_row-requires-clause-named
walk_row-requires-clause-named g c =
    subst (λ n. NamesCases n c.loop-y.self.field.grid (heights c.loop-y.self.field)) (sym c.loop-y.invariant.same)
    (subst (λ (v : Leveled). NamesCases (g.R.CellRows.named c.args.rows.now) v.grid (heights v)) (sym c.loop-y.invariant.at.field) c.requires.named)

pub walk_row-requires-clause-state : goal.walk_row-requires-clause-state
walk_row-requires-clause-state g c =
    subst (λ (v : Leveled). IsAt g.T.Tally.value g.T.Tally.fits g.T.Tally.of_loop v (c.loop-y.y + v.grid.ny * c.args.z) (row_start v.grid c.loop-y.y c.args.z) c.loop-y.self) (sym c.loop-y.invariant.at.field) c.loop-y.invariant.at

pub loop-y-preserved : goal.loop-y-preserved
loop-y-preserved g c =
    let v = c.args.self.now.field in
    let y : ℕ = c.loop-y.y in
    let ny = c.ny-y-end.ensures.value ∙ ap (λ (s : Grid). s.ny) c.sizes-sizes.ensures.value in
    let next = start_next v y c.args.z (omega (arith, c.loop-y-test.true, ny)) c.requires.z in
    let at : v.grid.nx * (y + v.grid.ny * c.args.z + 1) ≡ v.grid.nx * (y + 1 + v.grid.ny * c.args.z) = ap (λ n. v.grid.nx * n) (let e : y + v.grid.ny * c.args.z + 1 ≡ y + 1 + v.grid.ny * c.args.z = omega arith in e) in
    let names : Named = g.R.CellRows.named c.args.rows.now in
    let one : c.walk_row.new.steps ≤ c.loop-y.steps + 8 * asked_at v names c.args.z y
    = subst (λ (u : Leveled). c.walk_row.new.steps ≤ c.loop-y.steps + 8 * asked_at u names c.args.z y) c.loop-y.invariant.at.field
    (subst (λ (n : Named). c.walk_row.new.steps ≤ c.loop-y.steps + 8 * asked_at c.loop-y.self.field n c.args.z y) c.loop-y.invariant.same c.in_ok-walk_row.ensures.most) in
    record {
      same = c.in_ok-walk_row.ensures.same ∙ c.loop-y.invariant.same;
      least = omega (arith, c.loop-y.invariant.least, c.in_ok-walk_row.ensures.least);
      most = omega (arith, one, row_more v names c.args.z y, c.loop-y.invariant.most);
      at = at_moved g.T.Tally.value g.T.Tally.fits g.T.Tally.of_loop v (y + v.grid.ny * c.args.z + 1) (y + 1 + v.grid.ny * c.args.z) (row_start v.grid y c.args.z + v.grid.nx) (row_start v.grid (y + 1) c.args.z) c.walk_row.new.self
          (omega arith) (next ∙ at)
          (subst (λ (u : Leveled). IsAt g.T.Tally.value g.T.Tally.fits g.T.Tally.of_loop u (y + u.grid.ny * c.args.z + 1) (row_start u.grid y c.args.z + u.grid.nx) c.walk_row.new.self) c.loop-y.invariant.at.field c.in_ok-walk_row.ensures.state);
    }

pub returns-clause-same : goal.returns-clause-same
returns-clause-same g c = c.loop-y.invariant.same

pub returns-clause-state : goal.returns-clause-state
returns-clause-state g c =
    let v = c.args.self.now.field in
    let ny = c.ny-y-end.ensures.value ∙ ap (λ (s : Grid). s.ny) c.sizes-sizes.ensures.value in
    let y : c.loop-y.y ≡ v.grid.ny = omega (arith, c.loop-y.auto.y-end, c.loop-y-test.false, ny) in
    let e : v.grid.ny * (c.args.z + 1) ≡ v.grid.ny * c.args.z + v.grid.ny * 1 = mul-add v.grid.ny c.args.z 1 in
    let row : c.loop-y.y + v.grid.ny * c.args.z ≡ v.grid.ny * (c.args.z + 1) = omega (arith, y, e) in
    at_moved g.T.Tally.value g.T.Tally.fits g.T.Tally.of_loop v (c.loop-y.y + v.grid.ny * c.args.z) (v.grid.ny * (c.args.z + 1)) (row_start v.grid c.loop-y.y c.args.z) (row_start v.grid 0 (c.args.z + 1)) c.loop-y.self row
    (ap (λ n. v.grid.nx * n) (let z : c.loop-y.y + v.grid.ny * c.args.z ≡ 0 + v.grid.ny * (c.args.z + 1) = omega (arith, row) in z)) c.loop-y.invariant.at

pub returns-in_err-walk_row-clause-most : goal.returns-in_err-walk_row-clause-most
returns-in_err-walk_row-clause-most g c =
    let v = c.args.self.now.field in
    let y : ℕ = c.loop-y.y in
    let names : Named = g.R.CellRows.named c.args.rows.now in
    let ny = c.ny-y-end.ensures.value ∙ ap (λ (s : Grid). s.ny) c.sizes-sizes.ensures.value in
    let one : c.walk_row.new.steps ≤ c.loop-y.steps + 8 * asked_at v names c.args.z y
    = subst (λ (u : Leveled). c.walk_row.new.steps ≤ c.loop-y.steps + 8 * asked_at u names c.args.z y) c.loop-y.invariant.at.field
    (subst (λ (n : Named). c.walk_row.new.steps ≤ c.loop-y.steps + 8 * asked_at c.loop-y.self.field n c.args.z y) c.loop-y.invariant.same c.walk_row.ensures.most) in
    omega (arith, one, row_more v names c.args.z y, rows_grow v names c.args.z (y + 1) v.grid.ny (omega (arith, c.loop-y-test.true, ny)), c.loop-y.invariant.most)

pub returns-clause-most : goal.returns-clause-most
returns-clause-most g c =
    let v = c.args.self.now.field in
    let names : Named = g.R.CellRows.named c.args.rows.now in
    let ny = c.ny-y-end.ensures.value ∙ ap (λ (s : Grid). s.ny) c.sizes-sizes.ensures.value in
    let y : c.loop-y.y ≡ v.grid.ny = omega (arith, c.loop-y.auto.y-end, c.loop-y-test.false, ny) in
    omega (arith, c.loop-y.invariant.most, ap (asked_before v names c.args.z) y)
