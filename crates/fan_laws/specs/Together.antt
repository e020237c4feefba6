-- Where lattice edges lie together.
use Rattle.std.specs.Prelude.{◌≡◌, ℕ, ◌<◌, true}
use Rattle.iso_defs.specs.Grid.{Grid}
use Rattle.iso_defs.specs.UnitFace.{is_face, face_has}

-- the unit face of the grid at the point, across the axis, has the lattice edge
abbrev pub LiesInFace : Grid → ℕ → ℕ → ℕ → Type 0
LiesInFace g p axis n = (axis < 3) × (is_face g p axis ≡ true) × (face_has g p axis n ≡ true)
