use Rattle.std.proofs.Common.{◌≤◌, subst, arith}
use Rattle.iso_defs.specs.Bricks.{brick_count}
use Rattle.brick_store.proofs.Standing.{few_bricks}
use Rattle.bench_core.specs.Keeping.{Refreshes, Workbench, turn_steps}
use Rattle.bench_core.proofs.Staying.{all_waiting}
use Rattle.bench_core.proofs.bench.Bench.refresh_all.Goals as goal

pub returns : goal.returns
returns g c =
    let few = few_bricks c.self.inside.store.grid c.sizes.ensures.volume.grid in
    let most : brick_count c.args.self.now.state.volume.grid ≤ 4294967295
    = subst (λ (w : Workbench). brick_count w.state.volume.grid ≤ 4294967295) c.self.view_is (omega (arith, few)) in
    subst (λ l. Refreshes c.args.self.now c.work.new.self l turn_steps c.args.steps.now c.work.new.steps) (all_waiting c.args.self.now 4294967295 most) c.work.ensures
