use Rattle.std.proofs.Common.{◌<◌, ◌∙◌, sym, subst, length, pos, arith}
use Rattle.edit_log.specs.declared.runs.Run.{Run}
use Rattle.edit_log.proofs.RunLaws.{run_there, run_passed}
use Rattle.edit_log.proofs.runs.pass_ended.Goals as goal

abbrev none : Run
none = record { value = pos 0; count = 0 }

pub loop-rest-preserved : goal.loop-rest-preserved
loop-rest-preserved c =
    let runs = c.args.runs.now in
    let rest = c.loop-rest.rest in
    let low : rest.next < length runs = run_there runs rest (subst (λ l. 0 < length l) (sym c.loop-rest.invariant) c.requires) c.loop-rest-test.true in
    sym (run_passed runs rest none low c.loop-rest-test.true) ∙ c.loop-rest.invariant

pub returns-clause-some : goal.returns-clause-some
returns-clause-some c = omega (arith, c.loop-rest-test.false)
