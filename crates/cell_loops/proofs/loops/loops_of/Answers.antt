use Rattle.std.proofs.Common.{◌∙◌, ◌<◌, ◌≤◌, length, sym, subst, rules}
use Rattle.std.specs.List.{All}
use Rattle.std.proofs.lemmas.List.{take_all}
use Rattle.cell_loops.specs.Loops.{IsLoop, row_loops}
use Rattle.cell_loops.proofs.Counted.{all_loops}
use Rattle.cell_loops.proofs.loops.loops_of.Goals as goal

pub invariant_of-result : goal.invariant_of-result
invariant_of-result c =
    let small : c.args.row < 656 = search rules in
    let past : length (row_loops c.args.row) ≤ c.loop-turn.turn = search rules in
    subst (λ loops. All IsLoop loops) (sym (c.loop-turn.invariant ∙ take_all c.loop-turn.turn (row_loops c.args.row) past)) (all_loops c.args.row small)
