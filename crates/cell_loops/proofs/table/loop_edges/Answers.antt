use Rattle.std.proofs.Common.{◌≡◌, ◌∙◌, ◌+◌, ◌<◌, ap, sym, subst, rules, arith}
use Rattle.cell_loops.specs.Loops.{IsLoop}
use Rattle.cell_loops.proofs.Counted.{edges_are, is_loop, place_low, start_first}
use Rattle.cell_loops.proofs.table.loop_edges.Goals as goal

pub start_of-requires : goal.start_of-requires
start_of-requires c =
    let small : c.args.row < 656 = search rules in
    let place : c.first_loop.result + c.from.result ≡ c.first_loop.result + c.args.turn = ap (λ n. c.first_loop.result + n) c.from.ensures in
    let low : c.first_loop.result + c.from.result + 1 < 1027
    = place_low c.args.row c.number.result c.first_loop.result c.args.turn _ 0 0 small c.number.ensures.value c.first_loop.ensures.value c.requires place in
    omega arith

pub start_of-requires-2 : goal.start_of-requires-2
start_of-requires-2 c =
    let small : c.args.row < 656 = search rules in
    let place : c.first_loop.result + c.from.result ≡ c.first_loop.result + c.args.turn = ap (λ n. c.first_loop.result + n) c.from.ensures in
    place_low c.args.row c.number.result c.first_loop.result c.args.turn _ 0 0 small c.number.ensures.value c.first_loop.ensures.value c.requires place

pub edges_between-requires-clause-order : goal.edges_between-requires-clause-order
edges_between-requires-clause-order c =
    let small : c.args.row < 656 = search rules in
    let place : c.first_loop.result + c.from.result ≡ c.first_loop.result + c.args.turn = ap (λ n. c.first_loop.result + n) c.from.ensures in
    start_first c.args.row c.number.result c.first_loop.result c.args.turn _ c.start_of.result c.start_of-2.result small c.number.ensures.value c.first_loop.ensures.value c.requires place
    c.start_of.ensures.value c.start_of-2.ensures.value

pub returns-clause-value : goal.returns-clause-value
returns-clause-value c =
    let small : c.args.row < 656 = search rules in
    let place : c.first_loop.result + c.from.result ≡ c.first_loop.result + c.args.turn = ap (λ n. c.first_loop.result + n) c.from.ensures in
    c.edges_between.ensures
    ∙ edges_are c.args.row c.number.result c.first_loop.result c.args.turn _ c.start_of.result c.start_of-2.result small c.number.ensures.value c.first_loop.ensures.value c.requires place
    c.start_of.ensures.value c.start_of-2.ensures.value

pub returns-clause-shape : goal.returns-clause-shape
returns-clause-shape c =
    let small : c.args.row < 656 = search rules in
    let place : c.first_loop.result + c.from.result ≡ c.first_loop.result + c.args.turn = ap (λ n. c.first_loop.result + n) c.from.ensures in
    subst IsLoop (sym (returns-clause-value c))
    (is_loop c.args.row c.number.result c.first_loop.result c.args.turn _ c.start_of.result c.start_of-2.result small c.number.ensures.value c.first_loop.ensures.value c.requires place
    c.start_of.ensures.value c.start_of-2.ensures.value)
