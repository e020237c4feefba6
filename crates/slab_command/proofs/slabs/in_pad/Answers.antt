use Rattle.std.proofs.Common.{refl}
use Rattle.slab_command.proofs.slabs.in_pad.Goals as goal

pub returns-in-Err-clause-fault : goal.returns-in-Err-clause-fault
returns-in-Err-clause-fault g c = λ v same.
    rw (same, (c.new.ensures.size c.in-Err.fault).0 c.in-Err.is, c.refused.ensures) refl
