use Rattle.byte_streams.proofs.Taking.{reads_nothing}
use Rattle.slab_command.proofs.run.give_asked.Goals as goal

pub returns-in-None-clause-reading : goal.returns-in-None-clause-reading
returns-in-None-clause-reading g c = reads_nothing _ _
