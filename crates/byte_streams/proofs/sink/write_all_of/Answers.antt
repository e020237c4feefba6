use Rattle.std.proofs.Common.{arith}
use Rattle.std.proofs.lemmas.Grind.{common_steps}
use Rattle.std.proofs.lemmas.Result.{err_from_is_err_and}
use Rattle.byte_streams.proofs.Putting.{has_failed, has_more}
use Rattle.byte_streams.proofs.sink.write_all_of.Goals as goal

pub returns-in_err-count : goal.returns-in_err-count
returns-in_err-count g c =
    let p = err_from_is_err_and c.from_residual.result c.from_residual.ensures.1 in
    rw p.1 (has_failed _ _ _ _ _ _ _ c.loop-rest.invariant c.in_err-count.ensures.writes)

pub loop-rest-preserved : goal.loop-rest-preserved
loop-rest-preserved g c =
    has_more _ _ _ _ _ _ _ c.loop-rest.invariant c.in_ok-count.ensures.writes (grind (arith, common_steps))
