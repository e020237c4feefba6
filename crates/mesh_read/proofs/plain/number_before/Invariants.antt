use Rattle.mesh_read.proofs.PlainLaws.{AreDigits}
use Rattle.mesh_read.proofs.plain.number_before.Given as goal

abbrev pub invariant-loop-i : goal.invariant-loop-i
invariant-loop-i l = AreDigits l.front l.i l.value
