use Rattle.std.proofs.Common.{◌≡◌, All, refl, ℤ, List}
use Rattle.std.specs.Prelude.{Option, Some, None, IfSome}
use Rattle.iso_base.specs.Volume.{Volume}
use Rattle.fan_laws.specs.Padded.{HasPadBelow}
use Rattle.measure.specs.declared.share.Share.{Share}
use Rattle.part_laws.specs.Printed.{HasNoBorder}
use Rattle.bench_core.specs.Machine.{IsAbovePad}
use Rattle.bench_core.specs.Texts.{measure_of}
use Rattle.bench_core.proofs.bench.Bench.measure.Goals as goal

pub returns-clause-measures : goal.returns-clause-measures
unfolding measure_of
returns-clause-measures c = rw (← c.self.view_is) c.in_ok-walked_measures.ensures.measures

pub returns-clause-volumes : goal.returns-clause-volumes
returns-clause-volumes c = rw (← c.self.view_is) c.in_ok-walked_measures.ensures.volumes

-- with a pad there is one below the level
closed_by : (v : Volume) (level : ℤ) (m : List Share) (pad : Option ℤ) → v.pad ≡ pad → IsAbovePad pad level → (HasPadBelow v level → All HasNoBorder m)
    → IfSome pad (λ _. All HasNoBorder m)
closed_by v level m None e above closed = tt
closed_by v level m (Some pad) e above closed = closed (pad, e, above)

pub returns-clause-closed : goal.returns-clause-closed
returns-clause-closed c =
    let level : ℤ = c.self.inside.level in
    let m : List Share = c.in_ok-walked_measures.field-0 in
    rw (← c.self.view_is)
    (closed_by c.self.inside.store level m c.self.inside.store.pad refl c.self.invariant.0.state.above c.in_ok-walked_measures.ensures.closed)
