use Rattle.std.proofs.Common.{◌≡◌, ◌+◌, ◌*◌, ◌<◌, ◌≤◌, get_or, length, sym, refl, ◌∙◌, ap, subst, inl, inr, arith}
use Rattle.std.proofs.lemmas.Bool.{cases_lt}
use Rattle.iso_defs.specs.Grid.{Grid}
use Rattle.iso_defs.specs.Rows.{row_count}
use Rattle.edge_points.specs.Rows.{sums_before}
use Rattle.flat_mesh.specs.Lattice.{Leveled}
use Rattle.mesh_rows.specs.Rows.{row_names}
use Rattle.mesh_walk.specs.Numbers.{edges_to}
use Rattle.mesh_walk.proofs.RankedRows.{come_at, come_first, come_next, count_more, each_few, none_before, ranked, row_few, row_of_same, row_sum, rows_are, total_low}
use Rattle.mesh_walk.proofs.ranks.rank_rows.Goals as goal

pub loop-row-init : goal.loop-row-init
loop-row-init g c =
    let v = g.R.Heights.leveled c.args.rows.now in
    record {
      come = come_first v _ c.sizes-sizes.ensures.leveled.grid c.first-place.ensures.y c.first-place.ensures.z;
      grid = c.requires;
      rows = c.sizes.ensures.rows ∙ ap row_count c.requires;
      total = sym (none_before (g.R.Heights.leveled c.args.rows.now));
      sums = λ k low. absurd (omega arith);
      few = λ k low. absurd (omega arith);
      volume = refl;
      kept = refl;
      spent = refl;
    }

pub count_edges-count-requires-clause-y : goal.count_edges-count-requires-clause-y
count_edges-count-requires-clause-y g c =
    let v = g.R.Heights.leveled c.args.rows.now in
    let rows = rows_are v _ _ _ c.sizes-sizes.ensures.value c.ny.ensures.value c.nz.ensures.value in
    let at = come_at v c.loop-row._row c.loop-row.place c.loop-row.invariant.come (omega (arith, rows, c.loop-row-test.true)) in
    (row_of_same (g.R.Heights.leveled c.loop-row.rows) v _ _ _ c.loop-row.invariant.volume at).y_low

pub count_edges-count-requires-clause-z : goal.count_edges-count-requires-clause-z
count_edges-count-requires-clause-z g c =
    let v = g.R.Heights.leveled c.args.rows.now in
    let rows = rows_are v _ _ _ c.sizes-sizes.ensures.value c.ny.ensures.value c.nz.ensures.value in
    let at = come_at v c.loop-row._row c.loop-row.place c.loop-row.invariant.come (omega (arith, rows, c.loop-row-test.true)) in
    (row_of_same (g.R.Heights.leveled c.loop-row.rows) v _ _ _ c.loop-row.invariant.volume at).z_low

pub set_count-requires-clause-y : goal.set_count-requires-clause-y
set_count-requires-clause-y g c = subst (λ (g : Grid). c.loop-row.place.y < g.ny) (sym c.loop-row.invariant.grid) c.loop-row.invariant.come.y_low

pub set_count-requires-clause-z : goal.set_count-requires-clause-z
set_count-requires-clause-z g c =
    let v = g.R.Heights.leveled c.args.rows.now in
    let rows = rows_are v _ _ _ c.sizes-sizes.ensures.value c.ny.ensures.value c.nz.ensures.value in
    let at = come_at v c.loop-row._row c.loop-row.place c.loop-row.invariant.come (omega (arith, rows, c.loop-row-test.true)) in
    subst (λ (g : Grid). c.loop-row.place.z < g.nz) (sym c.loop-row.invariant.grid) at.z_low

pub set_count-requires-clause-crossing : goal.set_count-requires-clause-crossing
set_count-requires-clause-crossing g c =
    let v = g.R.Heights.leveled c.args.rows.now in
    let y = c.loop-row.place.y in
    let z = c.loop-row.place.z in
    let count = c.count_edges-count.result in
    let is = subst (λ (v : Leveled). count ≡ length (row_names v y z)) c.loop-row.invariant.volume c.count_edges-count.ensures.count in
    subst (λ (g : Grid). count ≤ 3 * g.nx) (sym c.loop-row.invariant.grid) (row_few v y z count is)

pub overflow_add-total : goal.overflow_add-total
overflow_add-total g c =
    let v = g.R.Heights.leveled c.args.rows.now in
    let rows = rows_are v _ _ _ c.sizes-sizes.ensures.value c.ny.ensures.value c.nz.ensures.value in
    let y = c.loop-row.place.y in
    let z = c.loop-row.place.z in
    let count = c.count_edges-count.result in
    let is = subst (λ (v : Leveled). count ≡ length (row_names v y z)) c.loop-row.invariant.volume c.count_edges-count.ensures.count in
    omega (arith, total_low v c.loop-row.total c.loop-row._row c.sizes-sizes.ensures.leveled.grid (omega (arith, c.loop-row-test.true, rows)) c.loop-row.invariant.total, row_few v y z count is)

pub next-place-requires-clause-y : goal.next-place-requires-clause-y
next-place-requires-clause-y g c =
    let v = g.R.Heights.leveled c.args.rows.now in
    let rows = rows_are v _ _ _ c.sizes-sizes.ensures.value c.ny.ensures.value c.nz.ensures.value in
    let at = come_at v c.loop-row._row c.loop-row.place c.loop-row.invariant.come (omega (arith, rows, c.loop-row-test.true)) in
    subst (λ (g : Grid). c.loop-row.place.y < g.ny) (sym c.sizes-sizes.ensures.value) at.y_low

pub next-place-requires-clause-z : goal.next-place-requires-clause-z
next-place-requires-clause-z g c =
    let v = g.R.Heights.leveled c.args.rows.now in
    let rows = rows_are v _ _ _ c.sizes-sizes.ensures.value c.ny.ensures.value c.nz.ensures.value in
    let at = come_at v c.loop-row._row c.loop-row.place c.loop-row.invariant.come (omega (arith, rows, c.loop-row-test.true)) in
    subst (λ (g : Grid). c.loop-row.place.z < g.nz) (sym c.sizes-sizes.ensures.value) at.z_low

pub loop-row-preserved : goal.loop-row-preserved
loop-row-preserved g c =
    let v = g.R.Heights.leveled c.args.rows.now in
    let row = c.loop-row._row in
    let count = c.count_edges-count.result in
    let new = c.set_count.new.self in
    let invariant = c.loop-row.invariant in
    let rows = rows_are v _ _ _ c.sizes-sizes.ensures.value c.ny.ensures.value c.nz.ensures.value in
    let y = c.loop-row.place.y in
    let z = c.loop-row.place.z in
    let at = come_at v c.loop-row._row c.loop-row.place c.loop-row.invariant.come (omega (arith, rows, c.loop-row-test.true)) in
    let is = subst (λ (v : Leveled). count ≡ length (row_names v y z)) invariant.volume c.count_edges-count.ensures.count in
    let value = row_sum v y z count is in
    let bound = row_few v y z count is in
    let place : v.grid.nx * (y + v.grid.ny * z) ≡ v.grid.nx * row = ap (λ n. v.grid.nx * n) at.row_is in
    let next : v.grid.nx * (y + v.grid.ny * z) + v.grid.nx ≡ v.grid.nx * (row + 1) = omega (arith, place) in
    let one : edges_to v (v.grid.nx * (row + 1)) ≡ edges_to v (v.grid.nx * row) + count
    = sym (ap (edges_to v) next) ∙ (value ∙ ap (λ n. edges_to v n + count) place) in
    let set = count_more v c.loop-row.ranks new row y z count invariant.grid invariant.rows (omega (arith, rows, c.loop-row-test.true)) at.row_is c.set_count.ensures in
    record {
      come = come_next v _ _ _ _ c.sizes-sizes.ensures.value c.next-place.ensures.y c.next-place.ensures.row c.loop-row.invariant.come;
      grid = set.grid;
      rows = set.rows;
      total = ap (λ n. n + count) invariant.total ∙ sym one;
      sums = λ k low. elim (cases_lt k row) [
        | inl earlier ↦ invariant.sums k earlier ∙ ap (λ n. edges_to v (v.grid.nx * k) + n) (sym (set.others k earlier))
        | inr here ↦ (
            let same : k ≡ row = omega arith in
            subst (λ n. edges_to v (v.grid.nx * (n + 1)) ≡ edges_to v (v.grid.nx * n) + get_or new.numbers n 0) (sym same) (one ∙ ap (λ n. edges_to v (v.grid.nx * row) + n) (sym set.same)))
      ];
      few = λ k low. elim (cases_lt k row) [
        | inl earlier ↦ subst (λ n. n ≤ 3 * v.grid.nx) (sym (set.others k earlier)) (invariant.few k earlier)
        | inr here ↦ (
            let same : k ≡ row = omega arith in
            subst (λ n. get_or new.numbers n 0 ≤ 3 * v.grid.nx) (sym same) (subst (λ n. n ≤ 3 * v.grid.nx) (sym set.same) bound))
      ];
      volume = c.count_edges-count.ensures.volume ∙ invariant.volume;
      kept = c.count_edges-count.ensures.kept ∙ invariant.kept;
      spent = c.count_edges-count.ensures.spent ∙ invariant.spent;
    }

pub finish-requires : goal.finish-requires
finish-requires g c =
    let v = g.R.Heights.leveled c.args.rows.now in
    let rows = rows_are v _ _ _ c.sizes-sizes.ensures.value c.ny.ensures.value c.nz.ensures.value in
    let nx : 3 * c.loop-row.ranks.grid.nx ≡ 3 * v.grid.nx = ap (λ (g : Grid). 3 * g.nx) c.loop-row.invariant.grid in
    each_few (3 * c.loop-row.ranks.grid.nx) c.loop-row.ranks.numbers (λ k low. omega (arith, nx, c.loop-row.invariant.few k (omega (arith, c.loop-row-test.false, rows, c.loop-row.invariant.rows))))

pub returns-clause-ranks : goal.returns-clause-ranks
returns-clause-ranks g c =
    let v = g.R.Heights.leveled c.args.rows.now in
    let rows = rows_are v _ _ _ c.sizes-sizes.ensures.value c.ny.ensures.value c.nz.ensures.value in
    let end : c.loop-row._row ≡ row_count v.grid = omega (arith, c.loop-row-test.false, rows, c.loop-row.auto._row-end) in
    let made : c.finish.new.self ≡ record { grid = v.grid; numbers = sums_before c.loop-row.ranks.numbers }
    = c.finish.ensures ∙ ap (λ (g : Grid). record { grid = g; numbers = sums_before c.loop-row.ranks.numbers }) c.loop-row.invariant.grid in
    ranked v c.loop-row.ranks.numbers (λ k low. c.loop-row.invariant.sums k (omega (arith, end, c.loop-row.invariant.rows))) c.finish.new.self c.loop-row.total made c.loop-row.invariant.rows
    (c.loop-row.invariant.total ∙ ap (λ n. edges_to v (v.grid.nx * n)) end)
