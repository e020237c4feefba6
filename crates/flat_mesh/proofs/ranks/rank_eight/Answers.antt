use Rattle.std.proofs.Common.{◌≡◌, ◌+◌, ◌-◌, subst, take, arith}
use Rattle.std.specs.List.{sum_by}
use Rattle.crossing_edges.specs.Flags.{edges_in}
use Rattle.crossing_edges.proofs.QuietRuns.{sum_stays}
use Rattle.flat_mesh.proofs.ranks.rank_eight.Goals as goal

pub returns-then-begin_none-clause-next : goal.returns-then-begin_none-clause-next
returns-then-begin_none-clause-next c =
    let none = c.begin_none.ensures.0 c.if-begin_none.true in
    omega (arith, sum_stays c.args.flags.now c.args.from 8 8 c.requires.eight none (omega arith))

pub returns-then-begin_none-clause-inside : goal.returns-then-begin_none-clause-inside
returns-then-begin_none-clause-inside c = λ i low high. (
    let none = c.begin_none.ensures.0 c.if-begin_none.true in
    let place : c.args.from + (i - c.args.from) ≡ i = omega arith in
    let same : sum_by edges_in (take i c.args.flags.now) ≡ sum_by edges_in (take c.args.from c.args.flags.now)
    = subst (λ k. sum_by edges_in (take k c.args.flags.now) ≡ sum_by edges_in (take c.args.from c.args.flags.now)) place
    (sum_stays c.args.flags.now c.args.from 8 (i - c.args.from) c.requires.eight none (omega arith)) in
    omega (arith, same, c.fill_eight.ensures.inside i low high))
