use Rattle.std.proofs.Common.{◌∙◌, ◌<◌, ap, get_or, rules}
use Rattle.cell_loops.specs.declared.table.TheConstants.{TRIANGLES}
use Rattle.cell_loops.proofs.Shapes.{triangle_bound, triangles_at}
use Rattle.cell_loops.proofs.table.triangle_count.Goals as goal

pub returns-clause-value : goal.returns-clause-value
returns-clause-value c =
    let small : c.args.row < 656 = search rules in
    ap (λ n. get_or TRIANGLES n 0) c.number.ensures.value ∙ triangles_at c.args.row small

pub returns-clause-bound : goal.returns-clause-bound
returns-clause-bound c = triangle_bound c.number.result
