use Rattle.std.proofs.Common.{ap}
use Rattle.bench_core.specs.Keeping.{Workbench}
use Rattle.bench_core.proofs.WindowFiles.{part_in_box}
use Rattle.bench_core.proofs.bench.Bench.window.Goals as goal

pub returns-clause-part : goal.returns-clause-part
returns-clause-part g c =
    part_in_box c.write_window.result _ _ _ _ _ c.in-Some.area (ap (λ (w : Workbench). w.state.volume) c.self.view_is)
    (ap (λ (w : Workbench). w.state.level) c.self.view_is) c.in-Some.ensures.area c.write_window.ensures.part
