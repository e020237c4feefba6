use Rattle.part_laws.proofs.FirstMet.{met_more}
use Rattle.part_laws.proofs.loops.loops_meet.Goals as goal

pub returns : goal.returns
returns c = λ ls l. met_more ls l
