use Rattle.std.proofs.Common.{◌<◌, ◌≤◌, ◌∙◌, ap, arith, get_or}
use Rattle.std.proofs.lemmas.List.{length-set}
use Rattle.row_bits.proofs.ActiveLists.{active_few, case_listed, listed_low}
use Rattle.row_bits.proofs.active.list_cases.Goals as goal

pub bounds-all-from : goal.bounds-all-from
bounds-all-from c =
    let low : get_or c.list_active-active.new.cells c.loop-k.k 0 < c.args.count
    = listed_low c.args.all.now c.list_active-active.new.cells c.args.count c.list_active-active.result c.loop-k.k c.list_active-active.ensures.put c.list_active-active.ensures.count
    (omega (arith, c.loop-k-test.true)) in
    omega (arith, low, c.from.ensures, c.requires)

pub loop-k-preserved : goal.loop-k-preserved
loop-k-preserved c =
    let counted : c.list_active-active.result ≤ 1026 = omega (arith, c.list_active-active.ensures.count, active_few c.args.all.now 0 c.args.count, c.requires) in
    record {
      count = length-set c.loop-k.cases c.loop-k.k _ ∙ c.loop-k.invariant.count;
      listed = case_listed c.args.all.now c.list_active-active.new.cells c.loop-k.cases c.loop-k.k (get_or c.args.all.now c.from.result 0)
          (omega (arith, c.loop-k.invariant.count, counted, c.loop-k-test.true)) (omega (arith, c.list_active-active.array_long, counted, c.loop-k-test.true))
          (ap (λ x. get_or c.args.all.now x 0) c.from.ensures) c.loop-k.invariant.listed;
    }

pub returns-clause-count : goal.returns-clause-count
returns-clause-count c = omega (arith, c.list_active-active.ensures.count, active_few c.args.all.now 0 c.args.count)
