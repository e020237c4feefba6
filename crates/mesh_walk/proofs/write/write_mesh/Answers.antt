use Rattle.std.proofs.Common.{◌≡◌, ℕ, ◌+◌, ◌*◌, ◌^◌, ◌<◌, ◌≤◌, ◌∙◌, ap, subst, arith}
use Rattle.std.proofs.lemmas.Result.{err_from_is_err_and}
use Rattle.iso_defs.specs.Grid.{point_count}
use Rattle.iso_defs.specs.Rows.{row_count}
use Rattle.byte_streams.proofs.Staging.{stages_not_put, stages_unwritten, stages_written}
use Rattle.iso_base.specs.Volume.{IsGrid}
use Rattle.flat_mesh.specs.Lattice.{Leveled, heights}
use Rattle.flat_mesh.proofs.FirstNumbers.{rank_low}
use Rattle.mesh_lines.specs.Blocks.{Gathered}
use Rattle.mesh_rows.specs.Counts.{AreAllCounts}
use Rattle.mesh_walk.specs.Spans.{edge_count, lines_text}
use Rattle.mesh_walk.proofs.Adding.{adds_as}
use Rattle.mesh_walk.proofs.WholeMesh.{all_put, puts_with, vertices_fit, written_is}
use Rattle.mesh_walk.proofs.write.write_mesh.Goals as goal

pub overflow_add-vertices : goal.overflow_add-vertices
overflow_add-vertices g c =
    let v = g.R.Heights.leveled c.args.rows.now in
    let counts = subst (λ (v : Leveled). AreAllCounts v c.count_cells-counts.result) c.rank_rows-total.ensures.volume c.count_cells-counts.ensures.counts in
    let low = vertices_fit v c.sizes-sizes.ensures.leveled c.args.style c.rank_rows-total.result c.count_cells-counts.result c.rank_rows-total.ensures.ranks.all counts in
    omega (arith, low)

-- few crossing edges are in a volume
few_edges : (v : Leveled) (total : ℕ) → IsGrid v.grid → total ≡ edge_count v → total < 2 ^ 31
few_edges v total is all =
    let points : v.grid.nx * row_count v.grid ≡ point_count v.grid = omega arith in
    let count = is.count in
    let low = rank_low v.grid (heights v) (3 * (v.grid.nx * row_count v.grid)) in
    omega (arith, all)

pub write_lines-requires-clause-numbers : goal.write_lines-requires-clause-numbers
write_lines-requires-clause-numbers g c = record {
  edge = omega arith;
  centre = few_edges (g.R.Heights.leveled c.args.rows.now) c.rank_rows-total.result c.sizes-sizes.ensures.leveled.grid c.rank_rows-total.ensures.ranks.all;
}

pub returns-in_err-write_lines-clause-text : goal.returns-in_err-write_lines-clause-text
returns-in_err-write_lines-clause-text g c =
    let v = g.R.Heights.leveled c.args.rows.now in
    let counts = subst (λ (v : Leveled). AreAllCounts v c.count_cells-counts.result) c.rank_rows-total.ensures.volume c.count_cells-counts.ensures.counts in
    let same = c.count_cells-counts.ensures.volume ∙ c.rank_rows-total.ensures.volume in
    let lines = adds_as _ _ _ _ _ _ _ (ap (λ (v : Leveled). lines_text c.args.style v c.count_cells-counts.result.faces) same) c.in_err-write_lines.ensures.adds in
    let a = all_put v c.sizes-sizes.ensures.leveled c.args.style c.rank_rows-total.result c.count_cells-counts.result c.rank_rows-total.ensures.ranks.all counts _ _ _ _ _ _ c.new-block.ensures c.push_head.ensures.put lines in
    let p = err_from_is_err_and c.from_residual.result c.from_residual.ensures.1 in
    rw p.1 (stages_not_put _ _ _ _ _ _ a.staged)

pub returns-in_err-write_waiting-clause-text : goal.returns-in_err-write_waiting-clause-text
returns-in_err-write_waiting-clause-text g c =
    let v = g.R.Heights.leveled c.args.rows.now in
    let counts = subst (λ (v : Leveled). AreAllCounts v c.count_cells-counts.result) c.rank_rows-total.ensures.volume c.count_cells-counts.ensures.counts in
    let same = c.count_cells-counts.ensures.volume ∙ c.rank_rows-total.ensures.volume in
    let lines = adds_as _ _ _ _ _ _ _ (ap (λ (v : Leveled). lines_text c.args.style v c.count_cells-counts.result.faces) same) c.in_ok-write_lines.ensures.adds in
    let a = all_put v c.sizes-sizes.ensures.leveled c.args.style c.rank_rows-total.result c.count_cells-counts.result c.rank_rows-total.ensures.ranks.all counts _ _ _ _ _ _ c.new-block.ensures c.push_head.ensures.put lines in
    let p = err_from_is_err_and c.from_residual-in_err-write_waiting.result c.from_residual-in_err-write_waiting.ensures.1 in
    rw p.1 (stages_unwritten _ _ _ _ _ _ _ _ a.staged c.in_err-write_waiting.ensures.text)

pub returns-clause-text : goal.returns-clause-text
returns-clause-text g c =
    let v = g.R.Heights.leveled c.args.rows.now in
    let counts = subst (λ (v : Leveled). AreAllCounts v c.count_cells-counts.result) c.rank_rows-total.ensures.volume c.count_cells-counts.ensures.counts in
    let same = c.count_cells-counts.ensures.volume ∙ c.rank_rows-total.ensures.volume in
    let lines = adds_as _ _ _ _ _ _ _ (ap (λ (v : Leveled). lines_text c.args.style v c.count_cells-counts.result.faces) same) c.in_ok-write_lines.ensures.adds in
    let a = all_put v c.sizes-sizes.ensures.leveled c.args.style c.rank_rows-total.result c.count_cells-counts.result c.rank_rows-total.ensures.ranks.all counts _ _ _ _ _ _ c.new-block.ensures c.push_head.ensures.put lines in
    puts_with _ _ _ _ _ (stages_written _ _ _ _ _ _ _ a.staged c.in_ok-write_waiting.ensures.text)

pub returns-clause-written : goal.returns-clause-written
returns-clause-written g c =
    let v = g.R.Heights.leveled c.args.rows.now in
    let counts = subst (λ (v : Leveled). AreAllCounts v c.count_cells-counts.result) c.rank_rows-total.ensures.volume c.count_cells-counts.ensures.counts in
    let same = c.count_cells-counts.ensures.volume ∙ c.rank_rows-total.ensures.volume in
    let lines = adds_as _ _ _ _ _ _ _ (ap (λ (v : Leveled). lines_text c.args.style v c.count_cells-counts.result.faces) same) c.in_ok-write_lines.ensures.adds in
    let a = all_put v c.sizes-sizes.ensures.leveled c.args.style c.rank_rows-total.result c.count_cells-counts.result c.rank_rows-total.ensures.ranks.all counts _ _ _ _ _ _ c.new-block.ensures c.push_head.ensures.put lines in
    let first : c.new-block.result.total ≡ 0 = ap (λ (b : Gathered). b.total) c.new-block.ensures in
    let bytes : c.total.result ≡ c.write_lines.new.block.total = c.total.ensures ∙ c.in_ok-write_waiting.ensures.total in
    let few = subst (λ (v : Leveled). c.write_lines.new.block.total ≤ c.push_head.new.self.total + 256 + 3520 * (v.grid.nx * row_count v.grid)) same c.in_ok-write_lines.ensures.bytes in
    rw bytes (written_is v c.sizes-sizes.ensures.leveled c.args.style c.rank_rows-total.result c.count_cells-counts.result c.rank_rows-total.ensures.ranks.all counts
    c.write_lines.new.block.total a.total (omega (arith, first, c.push_head.ensures.bytes, few)))
