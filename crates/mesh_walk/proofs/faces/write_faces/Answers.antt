use Rattle.std.proofs.Common.{◌≡◌, ◌+◌, ◌*◌, ◌<◌, ◌≤◌, ◌∙◌, suc, ap, subst, sym, refl, arith}
use Rattle.std.proofs.lemmas.Result.{err_from_is_err_and}
use Rattle.std.proofs.Math.Nat.{mul-le-mul_left}
use Rattle.iso_defs.specs.Grid.{Grid, is_cell}
use Rattle.flat_mesh.specs.Lattice.{Leveled}
use Rattle.mesh_text.specs.Numbers.{text_at}
use Rattle.mesh_walk.specs.Numbers.{AreRowRanks, HasNumber, cost_before, cost_of_row, row_number}
use Rattle.mesh_walk.specs.Slots.{IsReady}
use Rattle.mesh_walk.specs.Spans.{faces_text, points_to, row_faces_text, triangle_lines}
use Rattle.mesh_walk.specs.Texts.{number_due}
use Rattle.mesh_walk.proofs.Adding.{adds_as}
use Rattle.mesh_walk.proofs.CellRuns.{cost_at_first, cost_next, cost_upto}
use Rattle.mesh_walk.proofs.FaceLines.{first_number}
use Rattle.mesh_walk.proofs.RankedRows.{come_at, come_first, come_next, owned_are, row_of_same}
use Rattle.mesh_walk.proofs.RunLaws.{run_failed, run_more, run_none}
use Rattle.mesh_walk.proofs.faces.write_faces.Goals as goal

pub loop-row-init : goal.loop-row-init
loop-row-init g c =
    let v = g.R.Heights.leveled c.args.rows.now in
    let z : 0 ≡ v.grid.nx * 0 = omega arith in
    record {
      come = come_first v _ c.sizes-sizes.ensures.leveled.grid c.first-place.ensures.y c.first-place.ensures.z;
      adds = adds_as _ _ _ _ _ _ _ (ap (λ n. faces_text c.args.walk.style.format c.args.walk.numbers v 0 n) z) (run_none (triangle_lines c.args.walk.style.format c.args.walk.numbers v) (is_cell v.grid) 0 _ _ tt);
      bytes = omega arith;
      ready = c.of.ensures.ready c.args.walk.style c.args.walk.numbers v c.sizes-sizes.ensures.leveled.grid;
      slots = c.fill.ensures;
      next = subst (λ q. HasNumber c.args.walk.numbers.first_centre v q c.args.walk.numbers.first_centre) z (first_number v c.args.walk.numbers.first_centre);
      volume = refl;
      kept = refl;
      least = omega arith;
      most = omega (arith, cost_at_first v.grid (g.R.MeshRows.row_cost (g.R.MeshRows.kept c.args.rows.now)));
    }

pub write_row-requires-clause-ranks : goal.write_row-requires-clause-ranks
write_row-requires-clause-ranks g c = subst (λ (v : Leveled). AreRowRanks v c.args.walk.ranks.now c.args.walk.total) (sym c.loop-row.invariant.volume) c.requires.ranks

pub write_row-requires-clause-y : goal.write_row-requires-clause-y
write_row-requires-clause-y g c =
    let v = g.R.Heights.leveled c.args.rows.now in
    let rows = owned_are v _ _ c.args.walk.slices c.sizes-sizes.ensures.value c.ny.ensures.value c.requires.slices in
    let at = come_at v c.loop-row._row c.loop-row.place c.loop-row.invariant.come (omega (arith, rows.count, rows.few, c.loop-row-test.true)) in
    (row_of_same (g.R.Heights.leveled c.loop-row.rows) v _ _ _ c.loop-row.invariant.volume at).y_low

pub write_row-requires-clause-z : goal.write_row-requires-clause-z
write_row-requires-clause-z g c =
    let v = g.R.Heights.leveled c.args.rows.now in
    let rows = owned_are v _ _ c.args.walk.slices c.sizes-sizes.ensures.value c.ny.ensures.value c.requires.slices in
    let at = come_at v c.loop-row._row c.loop-row.place c.loop-row.invariant.come (omega (arith, rows.count, rows.few, c.loop-row-test.true)) in
    (row_of_same (g.R.Heights.leveled c.loop-row.rows) v _ _ _ c.loop-row.invariant.volume at).z_low

pub next-place-requires-clause-y : goal.next-place-requires-clause-y
next-place-requires-clause-y g c =
    let v = g.R.Heights.leveled c.args.rows.now in
    let rows = owned_are v _ _ c.args.walk.slices c.sizes-sizes.ensures.value c.ny.ensures.value c.requires.slices in
    let at = come_at v c.loop-row._row c.loop-row.place c.loop-row.invariant.come (omega (arith, rows.count, rows.few, c.loop-row-test.true)) in
    subst (λ (g : Grid). c.loop-row.place.y < g.ny) (sym c.sizes-sizes.ensures.value) at.y_low

pub next-place-requires-clause-z : goal.next-place-requires-clause-z
next-place-requires-clause-z g c =
    let v = g.R.Heights.leveled c.args.rows.now in
    let rows = owned_are v _ _ c.args.walk.slices c.sizes-sizes.ensures.value c.ny.ensures.value c.requires.slices in
    let at = come_at v c.loop-row._row c.loop-row.place c.loop-row.invariant.come (omega (arith, rows.count, rows.few, c.loop-row-test.true)) in
    subst (λ (g : Grid). c.loop-row.place.z < g.nz) (sym c.sizes-sizes.ensures.value) at.z_low

pub write_row-requires-clause-ready : goal.write_row-requires-clause-ready
write_row-requires-clause-ready g c =
    subst (λ (v : Leveled). IsReady (text_at c.loop-row.faces.texts.slots.texts) (number_due c.args.walk.style c.args.walk.numbers v) v c.loop-row.faces.texts.next)
    (sym c.loop-row.invariant.volume) c.loop-row.invariant.ready

pub write_row-requires-clause-next : goal.write_row-requires-clause-next
write_row-requires-clause-next g c =
    let v = g.R.Heights.leveled c.args.rows.now in
    subst (λ (v : Leveled). HasNumber c.args.walk.numbers.first_centre v (v.grid.nx * row_number v.grid c.loop-row.place) c.loop-row.faces.next) (sym c.loop-row.invariant.volume)
    (subst (λ n. HasNumber c.args.walk.numbers.first_centre v (v.grid.nx * n) c.loop-row.faces.next) (sym c.loop-row.invariant.come.row_is) c.loop-row.invariant.next)

pub returns-in_err-write_row-clause-adds : goal.returns-in_err-write_row-clause-adds
returns-in_err-write_row-clause-adds g c =
    let v = g.R.Heights.leveled c.args.rows.now in
    let p = err_from_is_err_and c.from_residual.result c.from_residual.ensures.1 in
    let rows = owned_are v _ _ c.args.walk.slices c.sizes-sizes.ensures.value c.ny.ensures.value c.requires.slices in
    let k : v.grid.nx * suc c.loop-row._row ≤ points_to v c.args.walk.slices = mul-le-mul_left v.grid.nx (omega (arith, rows.count, c.loop-row-test.true)) in
    let m : v.grid.nx * suc c.loop-row._row ≡ v.grid.nx * c.loop-row._row + v.grid.nx = omega arith in
    let one = adds_as _ _ _ _ _ _ _ (ap (λ (v : Leveled). row_faces_text c.args.walk.style.format c.args.walk.numbers v (row_number v.grid c.loop-row.place)) c.loop-row.invariant.volume ∙ ap (λ n. row_faces_text c.args.walk.style.format c.args.walk.numbers v n) c.loop-row.invariant.come.row_is) c.in_err-write_row.ensures.adds in
    rw p.1 (run_failed (triangle_lines c.args.walk.style.format c.args.walk.numbers v) (is_cell v.grid) 0 _ _ _ _ _ _ _ _ _ _
    (v.grid.nx * c.loop-row._row) v.grid.nx (points_to v c.args.walk.slices) _ (omega arith) (omega arith) c.loop-row.invariant.adds one)

pub returns-in_err-write_row-clause-volume : goal.returns-in_err-write_row-clause-volume
returns-in_err-write_row-clause-volume g c = c.in_err-write_row.ensures.volume ∙ c.loop-row.invariant.volume

pub returns-in_err-write_row-clause-kept : goal.returns-in_err-write_row-clause-kept
returns-in_err-write_row-clause-kept g c = c.in_err-write_row.ensures.kept ∙ c.loop-row.invariant.kept

pub returns-in_err-write_row-clause-least : goal.returns-in_err-write_row-clause-least
returns-in_err-write_row-clause-least g c = omega (arith, c.loop-row.invariant.least, c.in_err-write_row.ensures.least)

pub returns-in_err-write_row-clause-most : goal.returns-in_err-write_row-clause-most
returns-in_err-write_row-clause-most g c =
    let v = g.R.Heights.leveled c.args.rows.now in
    let cost = g.R.MeshRows.row_cost (g.R.MeshRows.kept c.args.rows.now) in
    let rows = owned_are v _ _ c.args.walk.slices c.sizes-sizes.ensures.value c.ny.ensures.value c.requires.slices in
    let same : cost_of_row (g.R.Heights.leveled c.loop-row.rows).grid (g.R.MeshRows.row_cost (g.R.MeshRows.kept c.loop-row.rows)) (row_number (g.R.Heights.leveled c.loop-row.rows).grid c.loop-row.place) ≡ cost_of_row v.grid cost c.loop-row._row
    = ap (λ (w : Leveled). cost_of_row w.grid (g.R.MeshRows.row_cost (g.R.MeshRows.kept c.loop-row.rows)) (row_number w.grid c.loop-row.place)) c.loop-row.invariant.volume
    ∙ (ap (λ k. cost_of_row v.grid (g.R.MeshRows.row_cost k) (row_number v.grid c.loop-row.place)) c.loop-row.invariant.kept
    ∙ ap (cost_of_row v.grid cost) c.loop-row.invariant.come.row_is) in
    omega (arith, same, cost_next v.grid cost c.loop-row._row, cost_upto v.grid cost (c.loop-row._row + 1) (v.grid.ny * c.args.walk.slices) (omega (arith, rows.count, c.loop-row-test.true)), c.in_err-write_row.ensures.most, c.loop-row.invariant.most)

pub loop-row-preserved : goal.loop-row-preserved
loop-row-preserved g c =
    let v = g.R.Heights.leveled c.args.rows.now in
    let cost = g.R.MeshRows.row_cost (g.R.MeshRows.kept c.args.rows.now) in
    let same : cost_of_row (g.R.Heights.leveled c.loop-row.rows).grid (g.R.MeshRows.row_cost (g.R.MeshRows.kept c.loop-row.rows)) (row_number (g.R.Heights.leveled c.loop-row.rows).grid c.loop-row.place) ≡ cost_of_row v.grid cost c.loop-row._row
    = ap (λ (w : Leveled). cost_of_row w.grid (g.R.MeshRows.row_cost (g.R.MeshRows.kept c.loop-row.rows)) (row_number w.grid c.loop-row.place)) c.loop-row.invariant.volume
    ∙ (ap (λ k. cost_of_row v.grid (g.R.MeshRows.row_cost k) (row_number v.grid c.loop-row.place)) c.loop-row.invariant.kept
    ∙ ap (cost_of_row v.grid cost) c.loop-row.invariant.come.row_is) in
    let one = adds_as _ _ _ _ _ _ _ (ap (λ (v : Leveled). row_faces_text c.args.walk.style.format c.args.walk.numbers v (row_number v.grid c.loop-row.place)) c.loop-row.invariant.volume ∙ ap (λ n. row_faces_text c.args.walk.style.format c.args.walk.numbers v n) c.loop-row.invariant.come.row_is) c.in_ok-write_row.ensures.adds in
    let nx : 3072 * (g.R.Heights.leveled c.loop-row.rows).grid.nx ≡ 3072 * v.grid.nx = ap (λ (w : Leveled). 3072 * w.grid.nx) c.loop-row.invariant.volume in
    record {
      come = come_next v _ _ _ _ c.sizes-sizes.ensures.value c.next-place.ensures.y c.next-place.ensures.row c.loop-row.invariant.come;
      adds = run_more (triangle_lines c.args.walk.style.format c.args.walk.numbers v) (is_cell v.grid) 0 _ _ _ _ _ _ tt tt
          (v.grid.nx * c.loop-row._row) v.grid.nx (v.grid.nx * (c.loop-row._row + 1)) _ (omega arith) (omega arith) c.loop-row.invariant.adds one;
      bytes = omega (arith, nx, c.loop-row.invariant.bytes, c.in_ok-write_row.ensures.bytes);
      ready = subst (λ (v : Leveled). IsReady (text_at c.write_row.new.faces.texts.slots.texts) (number_due c.args.walk.style c.args.walk.numbers v) v c.write_row.new.faces.texts.next)
          c.loop-row.invariant.volume c.in_ok-write_row.ensures.ready;
      slots = c.in_ok-write_row.ensures.slots;
      next = subst (λ n. HasNumber c.args.walk.numbers.first_centre v (v.grid.nx * (n + 1)) c.write_row.new.faces.next) c.loop-row.invariant.come.row_is
          (subst (λ (v : Leveled). HasNumber c.args.walk.numbers.first_centre v (v.grid.nx * (row_number v.grid c.loop-row.place + 1)) c.write_row.new.faces.next) c.loop-row.invariant.volume c.in_ok-write_row.ensures.next);
      volume = c.in_ok-write_row.ensures.volume ∙ c.loop-row.invariant.volume;
      kept = c.in_ok-write_row.ensures.kept ∙ c.loop-row.invariant.kept;
      least = omega (arith, c.loop-row.invariant.least, c.in_ok-write_row.ensures.least);
      most = omega (arith, same, cost_next v.grid cost c.loop-row._row, c.in_ok-write_row.ensures.most, c.loop-row.invariant.most);
    }

pub returns-clause-adds : goal.returns-clause-adds
returns-clause-adds g c =
    let v = g.R.Heights.leveled c.args.rows.now in
    let rows = owned_are v _ _ c.args.walk.slices c.sizes-sizes.ensures.value c.ny.ensures.value c.requires.slices in
    let end : c.loop-row._row ≡ v.grid.ny * c.args.walk.slices = omega (arith, c.loop-row-test.false, rows.count, c.loop-row.auto._row-end) in
    adds_as _ _ _ _ _ _ _ (ap (λ n. faces_text c.args.walk.style.format c.args.walk.numbers v 0 (v.grid.nx * n)) end) c.loop-row.invariant.adds

pub returns-clause-most : goal.returns-clause-most
returns-clause-most g c =
    let v = g.R.Heights.leveled c.args.rows.now in
    let rows = owned_are v _ _ c.args.walk.slices c.sizes-sizes.ensures.value c.ny.ensures.value c.requires.slices in
    let end : c.loop-row._row ≡ v.grid.ny * c.args.walk.slices = omega (arith, c.loop-row-test.false, rows.count, c.loop-row.auto._row-end) in
    subst (λ r. g.R.MeshRows.spent c.loop-row.rows ≤ g.R.MeshRows.spent c.args.rows.now + cost_before v.grid (g.R.MeshRows.row_cost (g.R.MeshRows.kept c.args.rows.now)) r) end c.loop-row.invariant.most

pub returns-clause-bytes : goal.returns-clause-bytes
returns-clause-bytes g c =
    let v = g.R.Heights.leveled c.args.rows.now in
    let rows = owned_are v _ _ c.args.walk.slices c.sizes-sizes.ensures.value c.ny.ensures.value c.requires.slices in
    let end : c.loop-row._row ≡ v.grid.ny * c.args.walk.slices = omega (arith, c.loop-row-test.false, rows.count, c.loop-row.auto._row-end) in
    subst (λ r. c.loop-row.block.total ≤ c.args.block.now.total + 3072 * (v.grid.nx * r)) end c.loop-row.invariant.bytes
