use Rattle.std.proofs.Common.{◌≡◌, map, drop}
use Rattle.program.specs.Questions.{is_among}
use Rattle.program.proofs.questions.is_among.Given as goal

abbrev pub invariant-loop-known : goal.invariant-loop-known
invariant-loop-known l = is_among l.command (map (λ c. c.now) (drop l.known-index l.commands)) ≡ is_among l.command (map (λ c. c.now) l.commands)
