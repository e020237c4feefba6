use Rattle.std.proofs.Common.{subst}
use Rattle.flat_mesh.specs.Lattice.{IsLeveled}
use Rattle.brick_rows.proofs.Heights.{leveled}
use Rattle.brick_rows.proofs.bricks_at_level.BricksAtLevel.sizes.Goals as goal

pub returns-clause-leveled : goal.returns-clause-leveled
returns-clause-leveled c = subst IsLeveled c.self.view_is (leveled c.self.inside.store.now c.self.inside.level c.sizes.ensures.volume)
