use Rattle.std.proofs.Common.{◌≡◌, ◌∙◌, ◌+◌, ◌*◌, ◌≤◌, ℕ, refl, sym, ap, subst, arith}
use Rattle.iso_defs.specs.Bricks.{brick_count}
use Rattle.iso_defs.specs.Grid.{Grid}
use Rattle.iso_base.specs.Volume.{IsGrid}
use Rattle.flat_mesh.specs.Lattice.{Leveled, heights}
use Rattle.flat_mesh.specs.Rows.{row_start}
use Rattle.brick_rows.specs.Named.{Named, NamesCases, asked_among}
use Rattle.brick_rows.specs.Rows.{at_level}
use Rattle.component_walk.specs.Asked.{asked_before, asked_below}
use Rattle.component_walk.specs.Rows.{IsAt}
use Rattle.component_walk.proofs.AskedLaws.{all_asked, slice_more, slices_grow}
use Rattle.component_walk.proofs.RowLaws.{at_moved, moved, whole_of}
use Rattle.component_walk.proofs.rows.walk.Goals as goal

pub loop-z-init : goal.loop-z-init
loop-z-init g c =
    let v = c.new-2.result in
    let l = c.in_ok-walked.walked in
    let grid : v.grid ≡ c.sizes-sizes.result = ap (λ (w : Leveled). w.grid) c.new-2.ensures ∙ sym c.sizes-sizes.ensures.value in
    let nx : c.nx.result ≡ v.grid.nx = c.nx.ensures.value ∙ ap (λ (s : Grid). s.nx) (sym grid) in
    record {
      same = refl;
      least = omega arith;
      most = omega arith;
      at = record {
        field = refl;
        active = c.new-3.ensures v (subst IsGrid (sym grid) c.nx.ensures.grid);
        count = omega (arith, c.in_ok-cases.cases.ok.0, c.in_ok-cases.ensures.len, nx);
        walked = moved g.T.Tally.value g.T.Tally.fits g.T.Tally.of_loop v 0 (v.grid.ny * 0) 0 (row_start v.grid 0 0) l.labels l.tallies.items l.edges (omega arith)
            (let e : 0 ≡ v.grid.nx * (v.grid.ny * 0) = omega arith in e ∙ ap (λ n. v.grid.nx * n) (let z : v.grid.ny * 0 ≡ 0 + v.grid.ny * 0 = omega arith in z)) (c.in_ok-walked.ensures v grid);
      };
    }

pub walk_slice-requires-clause-z : goal.walk_slice-requires-clause-z
walk_slice-requires-clause-z g c =
    let same : c.loop-z.walk.field.grid ≡ c.sizes-sizes.result = ap (λ (v : Leveled). v.grid) (c.loop-z.invariant.at.field ∙ c.new-2.ensures) ∙ sym c.sizes-sizes.ensures.value in
    omega (arith, c.loop-z-test.true, c.nz-z-end.ensures.value, ap (λ (s : Grid). s.nz) same)

pub walk_slice-requires-clause-named : goal.walk_slice-requires-clause-named
walk_slice-requires-clause-named g c =
    subst (λ n. NamesCases n c.loop-z.walk.field.grid (heights c.loop-z.walk.field)) (sym c.loop-z.invariant.same)
    (subst (λ (v : Leveled). NamesCases (g.R.CellRows.named c.args.rows.now) v.grid (heights v)) (sym (c.loop-z.invariant.at.field ∙ c.new-2.ensures)) c.requires.named)

pub walk_slice-requires-clause-state : goal.walk_slice-requires-clause-state
walk_slice-requires-clause-state g c =
    subst (λ (v : Leveled). IsAt g.T.Tally.value g.T.Tally.fits g.T.Tally.of_loop v (v.grid.ny * c.loop-z.z) (row_start v.grid 0 c.loop-z.z) c.loop-z.walk) (sym c.loop-z.invariant.at.field) c.loop-z.invariant.at

pub loop-z-preserved : goal.loop-z-preserved
loop-z-preserved g c =
    let z : ℕ = c.loop-z.z in
    let v = c.new-2.result in
    let names : Named = g.R.CellRows.named c.args.rows.now in
    let one : c.walk_slice.new.steps ≤ c.loop-z.steps + 8 * asked_before v names z v.grid.ny
    = subst (λ (u : Leveled). c.walk_slice.new.steps ≤ c.loop-z.steps + 8 * asked_before u names z u.grid.ny) c.loop-z.invariant.at.field
    (subst (λ (n : Named). c.walk_slice.new.steps ≤ c.loop-z.steps + 8 * asked_before c.loop-z.walk.field n z c.loop-z.walk.field.grid.ny) c.loop-z.invariant.same c.in_ok-walk_slice.ensures.most) in
    record {
      same = c.in_ok-walk_slice.ensures.same ∙ c.loop-z.invariant.same;
      least = omega (arith, c.loop-z.invariant.least, c.in_ok-walk_slice.ensures.least);
      most = omega (arith, one, slice_more v names z, c.loop-z.invariant.most);
      at = subst (λ (v : Leveled). IsAt g.T.Tally.value g.T.Tally.fits g.T.Tally.of_loop v (v.grid.ny * (z + 1)) (row_start v.grid 0 (z + 1)) c.walk_slice.new.self) c.loop-z.invariant.at.field c.in_ok-walk_slice.ensures.state;
    }

pub returns-clause-whole : goal.returns-clause-whole
returns-clause-whole g c =
    let v = at_level c.args.store.now c.args.level in
    let l = c.loop-z.walk.walked in
    let nz = c.nz-z-end.ensures.value ∙ ap (λ (s : Grid). s.nz) c.sizes-sizes.ensures.value in
    let z : c.loop-z.z ≡ v.grid.nz = omega (arith, c.loop-z.auto.z-end, c.loop-z-test.false, nz) in
    let h : IsAt g.T.Tally.value g.T.Tally.fits g.T.Tally.of_loop v (v.grid.ny * c.loop-z.z) (row_start v.grid 0 c.loop-z.z) c.loop-z.walk
    = subst (λ (w : Leveled). IsAt g.T.Tally.value g.T.Tally.fits g.T.Tally.of_loop w (w.grid.ny * c.loop-z.z) (row_start w.grid 0 c.loop-z.z) c.loop-z.walk) c.new-2.ensures c.loop-z.invariant.at in
    whole_of g.T.Tally.value g.T.Tally.fits g.T.Tally.of_loop v l.labels l.tallies.items l.edges (subst IsGrid c.sizes-sizes.ensures.value c.nx.ensures.grid)
    (at_moved g.T.Tally.value g.T.Tally.fits g.T.Tally.of_loop v (v.grid.ny * c.loop-z.z) (v.grid.ny * v.grid.nz) (row_start v.grid 0 c.loop-z.z) (row_start v.grid 0 v.grid.nz) c.loop-z.walk
    (ap (λ n. v.grid.ny * n) z) (ap (λ n. row_start v.grid 0 n) z) h).walked

pub returns-in_err-walk_slice-clause-most : goal.returns-in_err-walk_slice-clause-most
returns-in_err-walk_slice-clause-most g c =
    let z : ℕ = c.loop-z.z in
    let v = c.new-2.result in
    let names : Named = g.R.CellRows.named c.args.rows.now in
    let grid : v.grid ≡ c.sizes-sizes.result = ap (λ (w : Leveled). w.grid) c.new-2.ensures ∙ sym c.sizes-sizes.ensures.value in
    let nz : c.nz-z-end.result ≡ v.grid.nz = c.nz-z-end.ensures.value ∙ ap (λ (s : Grid). s.nz) (sym grid) in
    let one : c.walk_slice.new.steps ≤ c.loop-z.steps + 8 * asked_before v names z v.grid.ny
    = subst (λ (u : Leveled). c.walk_slice.new.steps ≤ c.loop-z.steps + 8 * asked_before u names z u.grid.ny) c.loop-z.invariant.at.field
    (subst (λ (n : Named). c.walk_slice.new.steps ≤ c.loop-z.steps + 8 * asked_before c.loop-z.walk.field n z c.loop-z.walk.field.grid.ny) c.loop-z.invariant.same c.walk_slice.ensures.most) in
    let grow = slices_grow v names (z + 1) v.grid.nz (omega (arith, c.loop-z-test.true, nz)) in
    let all = all_asked v names (subst IsGrid (sym grid) c.nx.ensures.grid) in
    let same = ap (λ (w : Leveled). asked_among w.grid (heights w) names 0 (brick_count w.grid)) c.new-2.ensures in
    omega (arith, one, slice_more v names z, grow, c.loop-z.invariant.most, all, same)

pub returns-clause-most : goal.returns-clause-most
returns-clause-most g c =
    let v = c.new-2.result in
    let names : Named = g.R.CellRows.named c.args.rows.now in
    let grid : v.grid ≡ c.sizes-sizes.result = ap (λ (w : Leveled). w.grid) c.new-2.ensures ∙ sym c.sizes-sizes.ensures.value in
    let nz : c.nz-z-end.result ≡ v.grid.nz = c.nz-z-end.ensures.value ∙ ap (λ (s : Grid). s.nz) (sym grid) in
    let z : c.loop-z.z ≡ v.grid.nz = omega (arith, c.loop-z.auto.z-end, c.loop-z-test.false, nz) in
    let all = all_asked v names (subst IsGrid (sym grid) c.nx.ensures.grid) in
    let same = ap (λ (w : Leveled). asked_among w.grid (heights w) names 0 (brick_count w.grid)) c.new-2.ensures in
    omega (arith, c.loop-z.invariant.most, ap (asked_below v names) z, all, same)
