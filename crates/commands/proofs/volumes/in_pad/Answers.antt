use Rattle.commands.proofs.Taken.{not_sized}
use Rattle.commands.proofs.volumes.in_pad.Goals as goal

pub returns-in-Err-clause-fault : goal.returns-in-Err-clause-fault
returns-in-Err-clause-fault g c = λ v same.
    not_sized c.args.pad c.args.level v c.args.sizes same c.in-Err.fault ((c.new.ensures.size c.in-Err.fault).0 c.in-Err.is)
