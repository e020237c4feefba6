use Rattle.std.proofs.Common.{◌-◌, ◌∙◌, arith, length, sym}
use Rattle.std.proofs.lemmas.List.{length-set}
use Rattle.sample_rows.specs.Lists.{cases_of}
use Rattle.sample_rows.proofs.Listed.{active_same, case_here, cases_same, number_set}
use Rattle.sample_rows.proofs.lists.list_whole_cells.Goals as goal

pub loop-x-preserved : goal.loop-x-preserved
loop-x-preserved c = record {
  count = length-set c.loop-x.all c.loop-x.x _ ∙ c.loop-x.invariant.count;
  done = number_set c.args.numbers.now c.loop-x.all c.loop-x.x (omega (arith, c.loop-x-test.true, c.loop-x.auto.x-end, c.loop-x.invariant.count, c.requires.few)) c.loop-x.invariant.done;
}

pub returns-clause-places : goal.returns-clause-places
returns-clause-places c =
    c.list_cases.ensures.places ∙ active_same c.loop-x.all (cases_of c.args.numbers.now) (length c.args.numbers.now - 1)
    (λ k low. c.loop-x.invariant.done k (omega (arith, low, c.loop-x-test.false)) ∙ sym (case_here c.args.numbers.now k (omega (arith, low))))

pub returns-clause-cases : goal.returns-clause-cases
returns-clause-cases c =
    c.list_cases.ensures.cases ∙ cases_same c.loop-x.all (cases_of c.args.numbers.now) _ (length c.args.numbers.now - 1) c.list_cases.ensures.places
    (λ k low. c.loop-x.invariant.done k (omega (arith, low, c.loop-x-test.false)) ∙ sym (case_here c.args.numbers.now k (omega (arith, low))))

pub returns-clause-count : goal.returns-clause-count
returns-clause-count c = omega (arith, c.list_cases.ensures.count, c.requires.some)
