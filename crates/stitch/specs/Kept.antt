-- What no call of the rows of a volume in bricks changes.
use Rattle.std.specs.Borrow.{GName}
use Rattle.flat_mesh.specs.Lattice.{Leveled}
use Rattle.brick_rows.specs.Named.{Named}

-- the volume, the cases that are named for its cells, and which references the rows hold: to who names the cases, to the counter, and to
-- what is known of rows
pub record StoreKept : Type 0 where
  pub volume : Leveled
  pub names : Named
  pub rows : GName
  pub steps : GName
  pub known : GName
