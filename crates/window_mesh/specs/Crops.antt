-- Boxes of a volume as volumes of their own.
use Rattle.std.specs.Prelude.{◌≡◌, ℕ, ◌+◌, ◌-◌, ◌<◌, true, List, ℤ, map, None, Some}
use Rattle.iso_defs.specs.Lists.{below}
use Rattle.iso_defs.specs.Grid.{Grid, point_count, size}
use Rattle.iso_base.specs.Volume.{IsOfKind, field, Volume, sample}
use Rattle.iso_base.specs.declared.fault.BenchFault.{BenchFault}
use Rattle.iso_base.specs.declared.fault.BenchFault.TheVariants as refusals
use Rattle.voxel_list.specs.Areas.{Area, is_in_area}
use Rattle.window_laws.specs.Windows.{IsPartOfMesh, Window, thin_axis, whole_point}
use Rattle.window_mesh.specs.declared.boxes.WindowFault.{WindowFault}
use Rattle.window_mesh.specs.declared.boxes.WindowFault.TheVariants.{Memory, Thin}

-- a box by its least corner and the grid of its points
abbrev pub window_of : Area → Window
window_of a = record {
  x = a.low.x;
  y = a.low.y;
  z = a.low.z;
  grid = record { nx = a.high.x - a.low.x + 1; ny = a.high.y - a.low.y + 1; nz = a.high.z - a.low.z + 1 };
}

-- each sample of the box is of the volume's kind
abbrev pub IsBoxOfKind : Volume → Area → Type 0
IsBoxOfKind v a = (p : ℕ) → p < point_count v.grid → is_in_area v.grid a p ≡ true → IsOfKind v.kind (sample v.samples p)

-- the first samples of a box, so many
abbrev pub first_cropped : Volume → Window → ℕ → List ℤ
first_cropped v w n = map (λ p. sample v.samples (whole_point v.grid w p)) (below n)

-- the box as a volume of its own, without a pad
abbrev pub cropped : Volume → Area → Volume
cropped v a = record {
  grid = (window_of a).grid;
  kind = v.kind;
  pad = None;
  samples = first_cropped v (window_of a) (point_count (window_of a).grid);
}

-- why a box is no window: it is thin along an axis; or along none, and memory could not be had
abbrev pub IsFaultOf : Grid → WindowFault → Type 0
IsFaultOf g (Thin axis n) = (thin_axis g ≡ Some axis) × (n ≡ size g axis)
IsFaultOf g Memory = thin_axis g ≡ None

-- the workbench's answer to a box that is no window
abbrev pub refusal_of : WindowFault → BenchFault
refusal_of (Thin axis n) = refusals.WindowThin axis n
refusal_of Memory = refusals.Memory

-- the mesh of the box at a level is the part of the whole mesh in it
abbrev pub IsWindowOfMesh : Volume → ℤ → Area → Type 0
IsWindowOfMesh v level a = IsPartOfMesh v.grid (window_of a) (field v.samples level) (field (cropped v a).samples level)
