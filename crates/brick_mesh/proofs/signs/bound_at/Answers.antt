use Rattle.std.proofs.Common.{subst, rules, w64}
use Rattle.std.proofs.lemmas.Int.{to_z-of_z}
use Rattle.samples.specs.Signs.{IsBound}
use Rattle.brick_mesh.proofs.signs.bound_at.Goals as goal

pub returns : goal.returns
returns g c = record {
  least = c.least_above.result;
  is = subst (λ least. IsBound g.T.Packed.Fits g.T.Packed.value least c.at_least.result) (to_z-of_z w64 c.least_above.result (search rules)) c.at_least.ensures;
  above = c.least_above.ensures;
}
