use Rattle.bench_core.specs.Machine.{State}
use Rattle.bench_core.specs.History.{state_of}
use Rattle.bench_core.proofs.Staying.{kept_refreshed, refreshes}
use Rattle.bench_core.proofs.bench.Bench.work.Goals as goal

pub invariant_of-self : goal.invariant_of-self
invariant_of-self g c =
    let b = c.self.inside in (
      c.self.invariant.0,
      (kept_refreshed b.store b.level b.tree c.args.n b.cache c.refresh_bricks.new.cache c.self.invariant.1.0 c.refresh_bricks.ensures.refresh, c.self.invariant.1.1),
    )

pub returns : goal.returns
returns g c =
    let b = c.self.inside in
    let s : State = state_of b.store b.level b.log in
    refreshes s c.args.self.now b.cache c.refresh_bricks.new.cache c.args.n c.args.steps.now c.refresh_bricks.new.steps c.self.view_is
    c.refresh_bricks.ensures.refresh c.refresh_bricks.ensures.least c.refresh_bricks.ensures.bound
