use Rattle.std.proofs.Common.{◌∙◌, ◌++◌, ◌∷◌, [], ap, arith, rules, decimal}
use Rattle.mesh_text.proofs.Counting.{counter_text}
use Rattle.mesh_text.proofs.counter.Counter.set_text.Goals as goal

pub returns : goal.returns
returns c =
    counter_text _ _ _ _ _ (search rules) (omega (arith, c.if-self-eq0.false)) c.self.invariant c.set_rest.ensures ∙ ap (λ n. decimal n ++ 32 ∷ []) c.self.view_is
