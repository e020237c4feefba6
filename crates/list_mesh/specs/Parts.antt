-- A part of a mesh.
use Rattle.std.specs.Prelude.{ℕ}
use Rattle.flat_mesh.specs.Lattice.{Leveled}

-- a volume at a level, and how many of its lowest slices the part has
pub record Part : Type 0 where
  pub volume : Leveled
  pub slices : ℕ
