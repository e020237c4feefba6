use Rattle.std.proofs.Common.{subst}
use Rattle.std.proofs.lemmas.Result.{err_from_is_err_and}
use Rattle.bench_core.specs.History.{state_of}
use Rattle.bench_core.specs.Keeping.{Workbench}
use Rattle.bench_core.specs.Machine.{State}
use Rattle.bench_core.specs.Surface.{IsWatertight}
use Rattle.bench_core.proofs.Meshes.{written_file, unwritten_file}
use Rattle.bench_core.proofs.Surfaces.{watertight_of}
use Rattle.bench_core.proofs.bench.Bench.write_kept.Goals as goal

pub invariant_of-self : goal.invariant_of-self
invariant_of-self g c = (c.self.invariant.0, (c.self.invariant.1.0, c.write_mesh.ensures.room))

pub returns-clause-file : goal.returns-clause-file
returns-clause-file g c =
    let s : State = state_of c.self.inside.store c.self.inside.level c.self.inside.log in
    rw (← c.self.view_is) (written_file s _ _ _ _ _ c.in_ok-written.ensures.file c.in_ok-written.ensures.written)

pub returns-in_err-written-clause-file : goal.returns-in_err-written-clause-file
returns-in_err-written-clause-file g c =
    let s : State = state_of c.self.inside.store c.self.inside.level c.self.inside.log in
    let p = err_from_is_err_and c.from_residual.result c.from_residual.ensures.1 in
    rw (p.1, p.2, ← c.self.view_is) (unwritten_file s _ _ _ _ _ c.in_err-written.ensures.file)

pub returns-clause-surface : goal.returns-clause-surface
returns-clause-surface g c =
    subst (λ (w : Workbench). IsWatertight w.state.volume w.state.level) c.self.view_is
    (watertight_of c.self.inside.store c.self.inside.level c.self.invariant.0.state.volume c.self.invariant.0.state.above)

pub returns-in_err-written-clause-surface : goal.returns-in_err-written-clause-surface
returns-in_err-written-clause-surface g c =
    subst (λ (w : Workbench). IsWatertight w.state.volume w.state.level) c.self.view_is
    (watertight_of c.self.inside.store c.self.inside.level c.self.invariant.0.state.volume c.self.invariant.0.state.above)
