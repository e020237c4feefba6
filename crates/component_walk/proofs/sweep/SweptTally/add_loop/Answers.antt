use Rattle.std.proofs.Common.{length}
use Rattle.component_walk.proofs.sweep.SweptTally.add_loop.Goals as goal

pub returns-clause-fits : goal.returns-clause-fits
returns-clause-fits g c = λ n small. c.together.ensures.fits n (length c.args.edges.now) small c.of_one.ensures.fits
