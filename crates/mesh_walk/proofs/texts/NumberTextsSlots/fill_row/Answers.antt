use Rattle.std.proofs.Common.{◌≡◌, ◌+◌, ◌*◌, ◌<◌, ◌≤◌, ℕ, List, get_or, take, sym, ◌∙◌, ap, subst, arith}
use Rattle.std.proofs.lemmas.List.{get_or_default, length-take}
use Rattle.iso_base.specs.Volume.{IsGrid}
use Rattle.iso_defs.specs.Grid.{point_count}
use Rattle.crossing_edges.specs.Flags.{rank}
use Rattle.crossing_edges.proofs.FlagParts.{row_in}
use Rattle.flat_mesh.specs.Lattice.{Leveled, heights}
use Rattle.flat_mesh.specs.Rows.{row_start}
use Rattle.flat_mesh.proofs.FirstNumbers.{rank_low}
use Rattle.mesh_text.specs.Numbers.{text_at}
use Rattle.mesh_lines.specs.Triangles.{corner_text}
use Rattle.mesh_walk.specs.Texts.{number_due}
use Rattle.mesh_walk.proofs.RankedRows.{row_low}
use Rattle.mesh_walk.proofs.RowSlots.{edge_is, laid_by, none_due}
use Rattle.mesh_walk.proofs.TextSlots.{edges_apart}
use Rattle.mesh_walk.proofs.texts.NumberTextsSlots.fill_row.Goals as goal

-- few edges begin before the next row
few_before : (v : Leveled) (y z before : ℕ) → IsGrid v.grid → y < v.grid.ny → z < v.grid.nz → before ≡ rank v.grid (heights v) (3 * row_start v.grid y z) → before + 3 * v.grid.nx ≤ 480000000
few_before v y z before is hy hz start =
    let fits : row_start v.grid y z + v.grid.nx ≤ point_count v.grid = row_in v.grid (y + v.grid.ny * z) (row_low v.grid y z hy hz) in
    let count = is.count in
    let low = rank_low v.grid (heights v) (3 * row_start v.grid y z) in
    omega (arith, start)

pub overflow_add-walk : goal.overflow_add-walk
overflow_add-walk g c =
    let v = g.R.Heights.leveled c.args.rows.now in
    omega (arith, c.requires.numbers.edge, few_before v c.args.y c.args.z _ c.sizes.ensures.leveled.grid c.requires.y c.requires.z c.edges_to_row-before.ensures)

pub returns-then-not-has_edges-clause-laid : goal.returns-then-not-has_edges-clause-laid
returns-then-not-has_edges-clause-laid g c =
    let v = g.R.Heights.leveled c.args.rows.now in
    none_due v c.args.y c.args.z (text_at c.args.self.now.texts) (number_due c.args.walk.style c.args.walk.numbers v) (c.has_edges.ensures c.if-not-has_edges.true)

pub shared_ref_as_front-edges : goal.shared_ref_as_front-edges
shared_ref_as_front-edges g c = omega (arith, c.list_edges-count.ensures.few, c.sizes.ensures.leveled.grid.x.most)

pub set_texts-requires-clause-low : goal.set_texts-requires-clause-low
set_texts-requires-clause-low g c = λ k d low.
    let v = g.R.Heights.leveled c.args.rows.now in
    let is = edge_is v c.args.y c.args.z _ c.list_edges-count.ensures.edges k low in
    subst (λ e. e < 3078) (sym (get_or_default _ k d 0 low)) (omega (arith, is.low, c.sizes.ensures.leveled.grid.x.most))

pub set_texts-requires-clause-apart : goal.set_texts-requires-clause-apart
set_texts-requires-clause-apart g c = edges_apart (g.R.Heights.leveled c.args.rows.now) c.args.y c.args.z _ c.list_edges-count.ensures.edges

pub set_texts-requires-clause-few : goal.set_texts-requires-clause-few
set_texts-requires-clause-few g c =
    let v = g.R.Heights.leveled c.args.rows.now in
    omega (arith, c.requires.numbers.edge, few_before v c.args.y c.args.z _ c.sizes.ensures.leveled.grid c.requires.y c.requires.z c.edges_to_row-before.ensures, c.list_edges-count.ensures.few, length-take c.list_edges-count.result c.list_edges-count.new.edges)

pub returns-clause-laid : goal.returns-clause-laid
returns-clause-laid g c =
    let v = g.R.Heights.leveled c.args.rows.now in
    let style = c.args.walk.style in
    let edges : List ℕ = take c.list_edges-count.result c.list_edges-count.new.edges in
    laid_by v c.args.y c.args.z (text_at c.set_texts.new.texts) (number_due style c.args.walk.numbers v) edges c.list_edges-count.ensures.edges
    (λ k low.
    let is = edge_is v c.args.y c.args.z edges c.list_edges-count.ensures.edges k low in
    ap (λ n. text_at c.set_texts.new.texts (n + get_or edges k 0)) (sym c.row_slot.ensures.value)
    ∙ (c.set_texts.ensures.set k low ∙ ap (corner_text style.format) (omega (arith, c.edges_to_row-before.ensures, is.rank_is))))
