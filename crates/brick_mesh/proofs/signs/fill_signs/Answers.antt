use Rattle.std.proofs.Common.{subst}
use Rattle.brick_mesh.specs.Signs.{Tells}
use Rattle.brick_mesh.proofs.signs.fill_signs.Goals as goal

pub returns-in-Some : goal.returns-in-Some
returns-in-Some g c = λ level tells. c.fill_each_sign.ensures level (subst (Tells g.T.Packed.Fits g.T.Packed.value level) c.in-Some.is tells)

pub returns-in-None : goal.returns-in-None
returns-in-None g c = λ level tells. c.fill_each_sign-in-None.ensures level (subst (Tells g.T.Packed.Fits g.T.Packed.value level) c.in-None.is tells)
