use Rattle.std.proofs.Common.{subst}
use Rattle.flat_mesh.specs.Lattice.{Leveled, AreKnown}
use Rattle.flat_mesh.proofs.lattice.Lattice.sizes.Goals as goal

pub returns-clause-leveled : goal.returns-clause-leveled
returns-clause-leveled c = (subst (λ (v : Leveled). AreKnown v c.self.inside.signs.now c.self.inside.flags.now c.self.inside.places.now) c.self.view_is c.self.invariant).leveled
