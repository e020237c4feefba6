use Rattle.byte_streams.proofs.Taking.{reads_nothing}
use Rattle.point_command.proofs.run.give_points.Goals as goal

pub returns-in-None-clause-reading : goal.returns-in-None-clause-reading
returns-in-None-clause-reading g c = reads_nothing _ _
