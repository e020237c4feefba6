use Rattle.std.proofs.Common.{Ok, Err}
use Rattle.session.proofs.Turns.{measure_by}
use Rattle.session.proofs.turn.run_measure.Goals as goal

pub returns-in-Ok : goal.returns-in-Ok
returns-in-Ok c = λ steps store. measure_by _ steps store (Ok c.in-Ok.measures) c.in-Ok.ensures.step c.in-Ok.ensures.measures c.in-Ok.ensures.not_shelf

pub returns-in-Err : goal.returns-in-Err
returns-in-Err c = λ steps store. measure_by _ steps store (Err c.in-Err.fault) c.in-Err.ensures.step (record {}) c.in-Err.ensures.not_shelf
