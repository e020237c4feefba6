use Rattle.triangle_laws.proofs.Verdicts.{some_verdict, verdict_unique}
use Rattle.fan_laws.proofs.lists.one_verdict.Goals as goal

pub returns : goal.returns
returns c = record { some = λ ts. some_verdict ts; unique = λ ts v w h k. verdict_unique ts v w h k }
