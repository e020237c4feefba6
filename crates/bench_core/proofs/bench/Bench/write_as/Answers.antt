use Rattle.bench_core.proofs.Staying.{refreshed_write}
use Rattle.bench_core.proofs.bench.Bench.write_as.Goals as goal

pub returns-clause-refreshed : goal.returns-clause-refreshed
returns-clause-refreshed g c =
    refreshed_write c.args.self.now c.refresh_all.new.self c.write_kept.new.self c.args.steps.now c.refresh_all.new.steps c.write_kept.new.steps
    c.refresh_all.ensures c.write_kept.ensures.same c.write_kept.ensures.least c.write_kept.ensures.most
