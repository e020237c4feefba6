use Rattle.std.proofs.Common.{[], arith, rules, sym, subst}
use Rattle.std.proofs.lemmas.Grind.{common_steps}
use Rattle.std.specs.List.{All}
use Rattle.cell_loops.specs.Loops.{IsLoop}
use Rattle.cell_loops.proofs.loops.CellLoops.edges.Goals as goal

pub returns-clause-value : goal.returns-clause-value
returns-clause-value c = first_of (search rules, grind (arith, common_steps))

pub returns-clause-shape : goal.returns-clause-shape
returns-clause-shape c =
    let all : All IsLoop c.args.self.now = subst (λ loops. All IsLoop loops) c.self.view_is c.self.invariant in
    subst IsLoop (sym (returns-clause-value c)) (all c.args.i [] c.requires)
