use Rattle.std.proofs.Common.{◌∙◌, ap, arith, ℤ, pos, List}
use Rattle.iso_base.specs.Volume.{IsOfKind}
use Rattle.edit_log.proofs.RunLaws.{area_some, one_run_is, one_run_restored}
use Rattle.edit_log.proofs.runs.write_equal.Goals as goal

pub fill_area-requires-clause-kind : goal.fill_area-requires-clause-kind
fill_area-requires-clause-kind c =
    one_run_is (IsOfKind c.args.store.now.kind) c.args.runs.now (record { value = pos 0; count = 0 }) (omega (arith, c.if-runs-eq1.true))
    (omega (arith, c.requires.count, area_some c.args.area.now)) c.requires.kind

pub returns-then-runs-eq1 : goal.returns-then-runs-eq1
returns-then-runs-eq1 c =
    let v = c.args.store.now in
    c.fill_area.ensures
    ∙ ap (λ (s : List ℤ). record v { samples = s })
    (one_run_restored v.grid c.args.area.now c.args.runs.now (record { value = pos 0; count = 0 }) v.samples
    (record { area = c.low.ensures.area; high = c.requires.high }) c.sizes.ensures.volume.count (omega (arith, c.if-runs-eq1.true)) c.requires.count)
