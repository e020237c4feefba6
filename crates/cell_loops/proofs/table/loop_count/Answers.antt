use Rattle.std.proofs.Common.{◌<◌, ◌≤◌, ◌-◌, rules}
use Rattle.cell_loops.proofs.Counted.{count_few, count_is, in_order}
use Rattle.cell_loops.proofs.table.loop_count.Goals as goal

pub overflow_sub-result : goal.overflow_sub-result
overflow_sub-result c =
    let small : c.args.row < 656 = search rules in
    in_order c.args.row c.number-number.result c.first_loop-2.result c.first_loop.result small c.number-number.ensures.value c.first_loop-2.ensures.value c.first_loop.ensures.value

pub overflow_cast-result : goal.overflow_cast-result
overflow_cast-result c =
    let small : c.args.row < 656 = search rules in
    let few : c.first_loop.result - c.first_loop-2.result ≤ 4
    = count_few c.args.row c.number-number.result c.first_loop-2.result c.first_loop.result small c.number-number.ensures.value c.first_loop-2.ensures.value c.first_loop.ensures.value in
    search rules

pub returns-clause-value : goal.returns-clause-value
returns-clause-value c =
    let small : c.args.row < 656 = search rules in
    count_is c.args.row c.number-number.result c.first_loop-2.result c.first_loop.result small c.number-number.ensures.value c.first_loop-2.ensures.value c.first_loop.ensures.value

pub returns-clause-bound : goal.returns-clause-bound
returns-clause-bound c =
    let small : c.args.row < 656 = search rules in
    count_few c.args.row c.number-number.result c.first_loop-2.result c.first_loop.result small c.number-number.ensures.value c.first_loop-2.ensures.value c.first_loop.ensures.value
