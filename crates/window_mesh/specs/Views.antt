-- The samples of a box of a volume, where they lie.
use Rattle.std.specs.Prelude.{ℕ, ◌+◌, List, ℤ}
use Rattle.iso_defs.specs.Grid.{Grid, point_count}
use Rattle.iso_base.specs.Volume.{Volume, sample}
use Rattle.iso_base.specs.declared.point.Point.{Point}
use Rattle.window_laws.specs.Windows.{Window, whole_point}
use Rattle.window_mesh.specs.Crops.{first_cropped}

-- a volume, and a box of its points
pub record InBox : Type 0 where
  pub volume : Volume
  pub window : Window

-- the box that begins at a point and has the points of a grid
abbrev pub window_at : Point → Grid → Window
window_at low g = record { x = low.x; y = low.y; z = low.z; grid = g }

-- the samples of the box
abbrev pub boxed_list : InBox → List ℤ
boxed_list b = first_cropped b.volume b.window (point_count b.window.grid)

-- the sample at a point of the box
abbrev pub boxed_at : InBox → ℕ → ℤ
boxed_at b p = sample b.volume.samples (whole_point b.volume.grid b.window p)

-- the point of the volume that a point of the box is
abbrev pub whole_of : Window → Point → Point
whole_of w p = record { x = w.x + p.x; y = w.y + p.y; z = w.z + p.z }
