use Rattle.std.proofs.Common.{◌∙◌, ◌<◌, ap, get_or, rules}
use Rattle.cell_loops.specs.declared.table.TheConstants.{CENTRES}
use Rattle.cell_loops.proofs.Shapes.{centre_bound, centres_at}
use Rattle.cell_loops.proofs.table.centre_count.Goals as goal

pub returns-clause-value : goal.returns-clause-value
returns-clause-value c =
    let small : c.args.row < 656 = search rules in
    ap (λ n. get_or CENTRES n 0) c.number.ensures.value ∙ centres_at c.args.row small

pub returns-clause-bound : goal.returns-clause-bound
returns-clause-bound c = centre_bound c.number.result
