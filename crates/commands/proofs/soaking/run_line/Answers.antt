use Rattle.commands.proofs.Soaked.{no_command}
use Rattle.commands.proofs.soaking.run_line.Goals as goal

pub returns-in-Ok-None : goal.returns-in-Ok-None
returns-in-Ok-None g c = no_command _ _ _ c.in-Ok-None.ensures (λ command is. absurd cc)

pub returns-in-Err : goal.returns-in-Err
returns-in-Err g c = no_command _ _ _ c.in-Err.ensures (λ command is. absurd cc)
