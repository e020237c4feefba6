use Rattle.part_laws.proofs.Moves.{six_moved, swept_moved}
use Rattle.part_laws.proofs.loops.loops_moved.Goals as goal

pub returns : goal.returns
returns c = record { area = λ at o vs. swept_moved at o vs; six = λ at o l. six_moved at o l }
