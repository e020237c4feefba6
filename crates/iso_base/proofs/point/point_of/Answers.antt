use Rattle.std.proofs.Common.{refl}
use Rattle.iso_base.proofs.Indices.{x_of_place, z_of_place}
use Rattle.iso_base.proofs.point.point_of.Goals as goal

pub returns-clause-value : goal.returns-clause-value
returns-clause-value c =
    rw (
      c.nx.ensures.value,
      c.nx-2.ensures.value,
      c.ny.ensures.value,
      c.ny-2.ensures.value,
      x_of_place c.args.sizes.now c.args.index,
      z_of_place c.args.sizes.now c.args.index c.nx.ensures.grid.x.least c.nx.ensures.grid.y.least c.requires,
    ) refl
