use Rattle.std.proofs.Common.{rules, ◌≡◌, ◌+◌, ◌*◌, ◌<◌, ◌≤◌, ◌∙◌, suc, ap, subst, sym, refl, arith}
use Rattle.std.proofs.lemmas.Result.{err_from_is_err_and}
use Rattle.std.proofs.Math.Nat.{mul-le-mul_left}
use Rattle.iso_defs.specs.Grid.{Grid, is_crossing}
use Rattle.flat_mesh.specs.Lattice.{Leveled, heights}
use Rattle.mesh_walk.specs.Numbers.{AreRowRanks, row_number}
use Rattle.mesh_walk.specs.Spans.{edge_line, edges_text, points_to, row_edges_text}
use Rattle.mesh_walk.proofs.Adding.{adds_as}
use Rattle.mesh_walk.proofs.RankedRows.{come_at, come_first, come_next, owned_are, row_of_same}
use Rattle.mesh_walk.proofs.RunLaws.{run_failed, run_more, run_none}
use Rattle.mesh_walk.proofs.edges.write_edges.Goals as goal

pub loop-row-init : goal.loop-row-init
loop-row-init g c =
    let v = g.R.Heights.leveled c.args.rows.now in
    let z : 0 ≡ 3 * (v.grid.nx * 0) = omega arith in
    record {
      come = come_first v _ c.sizes-sizes.ensures.leveled.grid c.first-place.ensures.y c.first-place.ensures.z;
      style = search rules;
      width = search rules;
      adds = adds_as _ _ _ _ _ _ _ (ap (λ n. edges_text c.args.walk.style v 0 n) z) (run_none (edge_line c.args.walk.style v) (is_crossing v.grid (heights v)) 0 _ _ tt);
      bytes = omega arith;
      volume = refl;
      kept = refl;
      spent = refl;
    }

pub write_row-requires-clause-ranks : goal.write_row-requires-clause-ranks
write_row-requires-clause-ranks g c = subst (λ (v : Leveled). AreRowRanks v c.args.walk.ranks.now c.args.walk.total) (sym c.loop-row.invariant.volume) c.requires.ranks

pub write_row-requires-clause-y : goal.write_row-requires-clause-y
write_row-requires-clause-y g c =
    let v = g.R.Heights.leveled c.args.rows.now in
    let rows = owned_are v _ _ c.args.walk.slices c.sizes-sizes.ensures.value c.ny.ensures.value c.requires.slices in
    let at = come_at v c.loop-row._row c.loop-row.place c.loop-row.invariant.come (omega (arith, rows.count, rows.few, c.loop-row-test.true)) in
    (row_of_same (g.R.Heights.leveled c.loop-row.rows) v _ _ _ c.loop-row.invariant.volume at).y_low

pub write_row-requires-clause-z : goal.write_row-requires-clause-z
write_row-requires-clause-z g c =
    let v = g.R.Heights.leveled c.args.rows.now in
    let rows = owned_are v _ _ c.args.walk.slices c.sizes-sizes.ensures.value c.ny.ensures.value c.requires.slices in
    let at = come_at v c.loop-row._row c.loop-row.place c.loop-row.invariant.come (omega (arith, rows.count, rows.few, c.loop-row-test.true)) in
    (row_of_same (g.R.Heights.leveled c.loop-row.rows) v _ _ _ c.loop-row.invariant.volume at).z_low

pub next-place-requires-clause-y : goal.next-place-requires-clause-y
next-place-requires-clause-y g c =
    let v = g.R.Heights.leveled c.args.rows.now in
    let rows = owned_are v _ _ c.args.walk.slices c.sizes-sizes.ensures.value c.ny.ensures.value c.requires.slices in
    let at = come_at v c.loop-row._row c.loop-row.place c.loop-row.invariant.come (omega (arith, rows.count, rows.few, c.loop-row-test.true)) in
    subst (λ (g : Grid). c.loop-row.place.y < g.ny) (sym c.sizes-sizes.ensures.value) at.y_low

pub next-place-requires-clause-z : goal.next-place-requires-clause-z
next-place-requires-clause-z g c =
    let v = g.R.Heights.leveled c.args.rows.now in
    let rows = owned_are v _ _ c.args.walk.slices c.sizes-sizes.ensures.value c.ny.ensures.value c.requires.slices in
    let at = come_at v c.loop-row._row c.loop-row.place c.loop-row.invariant.come (omega (arith, rows.count, rows.few, c.loop-row-test.true)) in
    subst (λ (g : Grid). c.loop-row.place.z < g.nz) (sym c.sizes-sizes.ensures.value) at.z_low

pub returns-in_err-write_row-clause-adds : goal.returns-in_err-write_row-clause-adds
returns-in_err-write_row-clause-adds g c =
    let v = g.R.Heights.leveled c.args.rows.now in
    let p = err_from_is_err_and c.from_residual.result c.from_residual.ensures.1 in
    let rows = owned_are v _ _ c.args.walk.slices c.sizes-sizes.ensures.value c.ny.ensures.value c.requires.slices in
    let k : v.grid.nx * suc c.loop-row._row ≤ points_to v c.args.walk.slices = mul-le-mul_left v.grid.nx (omega (arith, rows.count, c.loop-row-test.true)) in
    let m : v.grid.nx * suc c.loop-row._row ≡ v.grid.nx * c.loop-row._row + v.grid.nx = omega arith in
    let one = adds_as _ _ _ _ _ _ _ (ap (λ (v : Leveled). row_edges_text c.args.walk.style v (row_number v.grid c.loop-row.place)) c.loop-row.invariant.volume ∙ ap (λ n. row_edges_text c.args.walk.style v n) c.loop-row.invariant.come.row_is) c.in_err-write_row.ensures.adds in
    rw p.1 (run_failed (edge_line c.args.walk.style v) (is_crossing v.grid (heights v)) 0 _ _ _ _ _ _ _ _ _ _
    (3 * (v.grid.nx * c.loop-row._row)) (3 * v.grid.nx) (3 * (points_to v c.args.walk.slices)) _ (omega arith) (omega (arith, k, m)) c.loop-row.invariant.adds one)

pub returns-in_err-write_row-clause-volume : goal.returns-in_err-write_row-clause-volume
returns-in_err-write_row-clause-volume g c = c.in_err-write_row.ensures.volume ∙ c.loop-row.invariant.volume

pub returns-in_err-write_row-clause-kept : goal.returns-in_err-write_row-clause-kept
returns-in_err-write_row-clause-kept g c = c.in_err-write_row.ensures.kept ∙ c.loop-row.invariant.kept

pub returns-in_err-write_row-clause-spent : goal.returns-in_err-write_row-clause-spent
returns-in_err-write_row-clause-spent g c = c.in_err-write_row.ensures.spent ∙ c.loop-row.invariant.spent

pub loop-row-preserved : goal.loop-row-preserved
loop-row-preserved g c =
    let v = g.R.Heights.leveled c.args.rows.now in
    let one = adds_as _ _ _ _ _ _ _ (ap (λ (v : Leveled). row_edges_text c.args.walk.style v (row_number v.grid c.loop-row.place)) c.loop-row.invariant.volume ∙ ap (λ n. row_edges_text c.args.walk.style v n) c.loop-row.invariant.come.row_is) c.in_ok-write_row.ensures.adds in
    let nx : 192 * (g.R.Heights.leveled c.loop-row.rows).grid.nx ≡ 192 * v.grid.nx = ap (λ (w : Leveled). 192 * w.grid.nx) c.loop-row.invariant.volume in
    record {
      come = come_next v _ _ _ _ c.sizes-sizes.ensures.value c.next-place.ensures.y c.next-place.ensures.row c.loop-row.invariant.come;
      style = c.in_ok-write_row.ensures.style ∙ c.loop-row.invariant.style;
      width = c.in_ok-write_row.ensures.width ∙ c.loop-row.invariant.width;
      adds = run_more (edge_line c.args.walk.style v) (is_crossing v.grid (heights v)) 0 _ _ _ _ _ _ tt tt
          (3 * (v.grid.nx * c.loop-row._row)) (3 * v.grid.nx) (3 * (v.grid.nx * (c.loop-row._row + 1))) _ (omega arith) (omega arith) c.loop-row.invariant.adds one;
      bytes = omega (arith, nx, c.loop-row.invariant.bytes, c.in_ok-write_row.ensures.bytes);
      volume = c.in_ok-write_row.ensures.volume ∙ c.loop-row.invariant.volume;
      kept = c.in_ok-write_row.ensures.kept ∙ c.loop-row.invariant.kept;
      spent = c.in_ok-write_row.ensures.spent ∙ c.loop-row.invariant.spent;
    }

pub returns-clause-adds : goal.returns-clause-adds
returns-clause-adds g c =
    let v = g.R.Heights.leveled c.args.rows.now in
    let rows = owned_are v _ _ c.args.walk.slices c.sizes-sizes.ensures.value c.ny.ensures.value c.requires.slices in
    let end : c.loop-row._row ≡ v.grid.ny * c.args.walk.slices = omega (arith, c.loop-row-test.false, rows.count, c.loop-row.auto._row-end) in
    adds_as _ _ _ _ _ _ _ (ap (λ n. edges_text c.args.walk.style v 0 (3 * (v.grid.nx * n))) end) c.loop-row.invariant.adds

pub returns-clause-bytes : goal.returns-clause-bytes
returns-clause-bytes g c =
    let v = g.R.Heights.leveled c.args.rows.now in
    let rows = owned_are v _ _ c.args.walk.slices c.sizes-sizes.ensures.value c.ny.ensures.value c.requires.slices in
    let end : c.loop-row._row ≡ v.grid.ny * c.args.walk.slices = omega (arith, c.loop-row-test.false, rows.count, c.loop-row.auto._row-end) in
    subst (λ r. c.loop-row.block.total ≤ c.args.block.now.total + 192 * (v.grid.nx * r)) end c.loop-row.invariant.bytes
