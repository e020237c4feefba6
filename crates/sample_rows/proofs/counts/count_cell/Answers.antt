use Rattle.std.proofs.Common.{◌≡◌, ◌∙◌, ap, arith, refl}
use Rattle.cell_loops.specs.Loops.{row_loops}
use Rattle.flat_mesh.specs.Faces.{loops_at}
use Rattle.flat_mesh.proofs.CellPlaces.{cell_placed}
use Rattle.sample_rows.proofs.Counted.{one_counted}
use Rattle.sample_rows.proofs.counts.count_cell.Goals as goal

pub returns : goal.returns
returns g c =
    let v = (g.H.Heights.leveled c.args.field.now) in
    let placed = cell_placed v.grid c.args.cell c.requires.cell in
    let case : row_loops c.of-case.result ≡ loops_at v c.args.cell.index = ap row_loops c.of-case.ensures ∙ c.requires.case.loops in
    one_counted v c.args.cell.index c.of-case.result c.from.result c.from-2.result c.args.counts _ placed.tested case
    (c.from.ensures ∙ c.centre_count.ensures.value) (c.from-2.ensures ∙ c.triangle_count.ensures.value)
    (omega (arith, c.from.ensures, c.centre_count.ensures.bound)) (omega (arith, c.from-2.ensures, c.triangle_count.ensures.bound)) refl refl c.requires.counts
