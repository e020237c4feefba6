use Rattle.std.proofs.Common.{◌≡◌, ℕ, ◌+◌, ◌*◌, ◌<◌, ◌≤◌, ◌∙◌, length, ap, subst, sym, refl, arith, zero-add}
use Rattle.iso_defs.specs.Grid.{Grid, is_cell}
use Rattle.iso_defs.specs.Scratch.{cell_centres}
use Rattle.flat_mesh.specs.Found.{numbered}
use Rattle.flat_mesh.specs.Lattice.{Leveled, heights}
use Rattle.mesh_rows.specs.Counts.{AreCounts, centres_among, triangles_among}
use Rattle.mesh_rows.proofs.SpanLaws.{length_more, span_none}
use Rattle.mesh_walk.specs.Numbers.{AreRowRanks, cost_before, cost_of_row, row_number}
use Rattle.mesh_walk.proofs.CellRuns.{cost_at_first, cost_next}
use Rattle.mesh_walk.proofs.RankedRows.{come_at, come_first, come_next, few_points, owned_are, row_of_same}
use Rattle.mesh_walk.proofs.parts.count_cells.Goals as goal

pub loop-row-init : goal.loop-row-init
loop-row-init g c =
    let v = g.R.Heights.leveled c.args.rows.now in
    let z : v.grid.nx * 0 ≡ 0 = omega arith in
    record {
      come = come_first v _ c.sizes-sizes.ensures.leveled.grid c.first-place.ensures.y c.first-place.ensures.z;
      counts = record {
        centres = sym (ap (centres_among v 0) z ∙ ap length (span_none (cell_centres v.grid (heights v)) (is_cell v.grid) 0));
        faces = sym (ap (triangles_among v 0) z ∙ ap length (span_none (numbered v) (is_cell v.grid) 0));
        few_centres = omega arith;
        few_faces = omega arith;
      };
      volume = refl;
      kept = refl;
      least = omega arith;
      most = omega (arith, cost_at_first v.grid (g.R.MeshRows.row_cost (g.R.MeshRows.kept c.args.rows.now)));
    }

pub count_row-row-requires-clause-ranks : goal.count_row-row-requires-clause-ranks
count_row-row-requires-clause-ranks g c = subst (λ (v : Leveled). AreRowRanks v c.args.walk.ranks.now c.args.walk.total) (sym c.loop-row.invariant.volume) c.requires.ranks

pub count_row-row-requires-clause-y : goal.count_row-row-requires-clause-y
count_row-row-requires-clause-y g c =
    let v = g.R.Heights.leveled c.args.rows.now in
    let rows = owned_are v _ _ c.args.walk.slices c.sizes-sizes.ensures.value c.ny.ensures.value c.requires.slices in
    let at = come_at v c.loop-row._row c.loop-row.place c.loop-row.invariant.come (omega (arith, rows.count, rows.few, c.loop-row-test.true)) in
    (row_of_same (g.R.Heights.leveled c.loop-row.rows) v _ _ _ c.loop-row.invariant.volume at).y_low

pub count_row-row-requires-clause-z : goal.count_row-row-requires-clause-z
count_row-row-requires-clause-z g c =
    let v = g.R.Heights.leveled c.args.rows.now in
    let rows = owned_are v _ _ c.args.walk.slices c.sizes-sizes.ensures.value c.ny.ensures.value c.requires.slices in
    let at = come_at v c.loop-row._row c.loop-row.place c.loop-row.invariant.come (omega (arith, rows.count, rows.few, c.loop-row-test.true)) in
    (row_of_same (g.R.Heights.leveled c.loop-row.rows) v _ _ _ c.loop-row.invariant.volume at).z_low

pub overflow_add-counts : goal.overflow_add-counts
overflow_add-counts g c =
    let v = g.R.Heights.leveled c.args.rows.now in
    let rows = owned_are v _ _ c.args.walk.slices c.sizes-sizes.ensures.value c.ny.ensures.value c.requires.slices in
    let few = few_points v.grid c.loop-row._row c.sizes-sizes.ensures.leveled.grid (omega (arith, rows.count, rows.few, c.loop-row-test.true)) in
    let nx : 4 * (g.R.Heights.leveled c.loop-row.rows).grid.nx ≡ 4 * v.grid.nx = ap (λ (w : Leveled). 4 * w.grid.nx) c.loop-row.invariant.volume in
    omega (arith, few, nx, c.loop-row.invariant.counts.few_centres, c.count_row-row.ensures.few_centres)

pub overflow_add-counts-in-loop-row : goal.overflow_add-counts-in-loop-row
overflow_add-counts-in-loop-row g c =
    let v = g.R.Heights.leveled c.args.rows.now in
    let rows = owned_are v _ _ c.args.walk.slices c.sizes-sizes.ensures.value c.ny.ensures.value c.requires.slices in
    let few = few_points v.grid c.loop-row._row c.sizes-sizes.ensures.leveled.grid (omega (arith, rows.count, rows.few, c.loop-row-test.true)) in
    let nx : 12 * (g.R.Heights.leveled c.loop-row.rows).grid.nx ≡ 12 * v.grid.nx = ap (λ (w : Leveled). 12 * w.grid.nx) c.loop-row.invariant.volume in
    omega (arith, few, nx, c.loop-row.invariant.counts.few_faces, c.count_row-row.ensures.few_faces)

pub next-place-requires-clause-y : goal.next-place-requires-clause-y
next-place-requires-clause-y g c =
    let v = g.R.Heights.leveled c.args.rows.now in
    let rows = owned_are v _ _ c.args.walk.slices c.sizes-sizes.ensures.value c.ny.ensures.value c.requires.slices in
    let at = come_at v c.loop-row._row c.loop-row.place c.loop-row.invariant.come (omega (arith, rows.count, rows.few, c.loop-row-test.true)) in
    subst (λ (g : Grid). c.loop-row.place.y < g.ny) (sym c.sizes-sizes.ensures.value) at.y_low

pub next-place-requires-clause-z : goal.next-place-requires-clause-z
next-place-requires-clause-z g c =
    let v = g.R.Heights.leveled c.args.rows.now in
    let rows = owned_are v _ _ c.args.walk.slices c.sizes-sizes.ensures.value c.ny.ensures.value c.requires.slices in
    let at = come_at v c.loop-row._row c.loop-row.place c.loop-row.invariant.come (omega (arith, rows.count, rows.few, c.loop-row-test.true)) in
    subst (λ (g : Grid). c.loop-row.place.z < g.nz) (sym c.sizes-sizes.ensures.value) at.z_low

pub loop-row-preserved : goal.loop-row-preserved
loop-row-preserved g c =
    let v = g.R.Heights.leveled c.args.rows.now in
    let cost = g.R.MeshRows.row_cost (g.R.MeshRows.kept c.args.rows.now) in
    let row : ℕ = c.loop-row._row in
    let volume = c.loop-row.invariant.volume in
    let at = c.loop-row.invariant.come.row_is in
    let same : cost_of_row (g.R.Heights.leveled c.loop-row.rows).grid (g.R.MeshRows.row_cost (g.R.MeshRows.kept c.loop-row.rows)) (row_number (g.R.Heights.leveled c.loop-row.rows).grid c.loop-row.place) ≡ cost_of_row v.grid cost c.loop-row._row
    = ap (λ (w : Leveled). cost_of_row w.grid (g.R.MeshRows.row_cost (g.R.MeshRows.kept c.loop-row.rows)) (row_number w.grid c.loop-row.place)) volume
    ∙ (ap (λ k. cost_of_row v.grid (g.R.MeshRows.row_cost k) (row_number v.grid c.loop-row.place)) c.loop-row.invariant.kept
    ∙ ap (cost_of_row v.grid cost) at) in
    let next : v.grid.nx * (row + 1) ≡ v.grid.nx * row + v.grid.nx = omega arith in
    let nx : (g.R.Heights.leveled c.loop-row.rows).grid.nx ≡ v.grid.nx = ap (λ (w : Leveled). w.grid.nx) volume in
    let centres = c.count_row-row.ensures.centres
    ∙ (ap (λ (w : Leveled). centres_among w (w.grid.nx * row_number w.grid c.loop-row.place) w.grid.nx) volume ∙ ap (λ n. centres_among v (v.grid.nx * n) v.grid.nx) at) in
    let faces = c.count_row-row.ensures.faces
    ∙ (ap (λ (w : Leveled). triangles_among w (w.grid.nx * row_number w.grid c.loop-row.place) w.grid.nx) volume ∙ ap (λ n. triangles_among v (v.grid.nx * n) v.grid.nx) at) in
    let all_centres : centres_among v 0 (v.grid.nx * (row + 1)) ≡ centres_among v 0 (v.grid.nx * row) + centres_among v (v.grid.nx * row) v.grid.nx
    = ap (centres_among v 0) next ∙ (length_more (cell_centres v.grid (heights v)) (is_cell v.grid) 0 (v.grid.nx * row) v.grid.nx
    ∙ ap (λ k. centres_among v 0 (v.grid.nx * row) + centres_among v k v.grid.nx) (zero-add (v.grid.nx * row))) in
    let all_faces : triangles_among v 0 (v.grid.nx * (row + 1)) ≡ triangles_among v 0 (v.grid.nx * row) + triangles_among v (v.grid.nx * row) v.grid.nx
    = ap (triangles_among v 0) next ∙ (length_more (numbered v) (is_cell v.grid) 0 (v.grid.nx * row) v.grid.nx
    ∙ ap (λ k. triangles_among v 0 (v.grid.nx * row) + triangles_among v k v.grid.nx) (zero-add (v.grid.nx * row))) in
    let counts = c.loop-row.invariant.counts in
    record {
      come = come_next v _ _ _ _ c.sizes-sizes.ensures.value c.next-place.ensures.y c.next-place.ensures.row c.loop-row.invariant.come;
      counts = record {
        centres = omega (arith, counts.centres, centres, all_centres);
        faces = omega (arith, counts.faces, faces, all_faces);
        few_centres = omega (arith, next, nx, counts.few_centres, c.count_row-row.ensures.few_centres);
        few_faces = omega (arith, next, nx, counts.few_faces, c.count_row-row.ensures.few_faces);
      };
      volume = c.count_row-row.ensures.volume ∙ volume;
      kept = c.count_row-row.ensures.kept ∙ c.loop-row.invariant.kept;
      least = omega (arith, c.loop-row.invariant.least, c.count_row-row.ensures.least);
      most = omega (arith, same, cost_next v.grid cost row, c.count_row-row.ensures.most, c.loop-row.invariant.most);
    }

pub returns-clause-counts : goal.returns-clause-counts
returns-clause-counts g c =
    let v = g.R.Heights.leveled c.args.rows.now in
    let rows = owned_are v _ _ c.args.walk.slices c.sizes-sizes.ensures.value c.ny.ensures.value c.requires.slices in
    let end : c.loop-row._row ≡ v.grid.ny * c.args.walk.slices = omega (arith, c.loop-row-test.false, rows.count, c.loop-row.auto._row-end) in
    subst (λ r. AreCounts v (v.grid.nx * r) c.loop-row.counts) end c.loop-row.invariant.counts

pub returns-clause-most : goal.returns-clause-most
returns-clause-most g c =
    let v = g.R.Heights.leveled c.args.rows.now in
    let rows = owned_are v _ _ c.args.walk.slices c.sizes-sizes.ensures.value c.ny.ensures.value c.requires.slices in
    let end : c.loop-row._row ≡ v.grid.ny * c.args.walk.slices = omega (arith, c.loop-row-test.false, rows.count, c.loop-row.auto._row-end) in
    subst (λ r. g.R.MeshRows.spent c.loop-row.rows ≤ g.R.MeshRows.spent c.args.rows.now + cost_before v.grid (g.R.MeshRows.row_cost (g.R.MeshRows.kept c.args.rows.now)) r) end c.loop-row.invariant.most
