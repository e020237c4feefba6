use Rattle.part_laws.specs.Loops.{Loop}
use Rattle.std.proofs.Common.{◌≤◌, length}
use Rattle.part_laws.proofs.Counted.{sides_round}
use Rattle.part_laws.proofs.Edges.{at_in}
use Rattle.part_laws.proofs.loops.faces_by_steps.Goals as goal

pub returns : goal.returns
returns c = λ ls h. sides_round ls (λ l i. at_in (λ (l : Loop). 3 ≤ length l.1) ls h l i)
