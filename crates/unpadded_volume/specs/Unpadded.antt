-- The part of a volume off the pad's layer, as a file holds it.
use Rattle.std.specs.Prelude.{ℕ, ◌+◌, ◌-◌, ◌*◌, ◌≤◌, ◌<◌, nat_lt, if◌then◌else◌, Option, Some, None, ℤ, pos, negsuc, Bool, true, false, List, map}
use Rattle.iso_base.specs.Volume.{Volume, layer, Voxels, inner_grid, sample}
use Rattle.iso_base.specs.declared.point.Point.{Point}
use Rattle.iso_defs.specs.Lists.{below}
use Rattle.iso_defs.specs.Grid.{index, coordinate, point_count}
use Rattle.nrrd.specs.Writing as nrrd

-- the point lies in the grid and not in the pad's layer
pub record IsInside (v : Volume) (p : Point) : Type 0 where
  pub low_x : layer v.pad ≤ p.x
  pub high_x : p.x + layer v.pad < v.grid.nx
  pub low_y : layer v.pad ≤ p.y
  pub high_y : p.y + layer v.pad < v.grid.ny
  pub low_z : layer v.pad ≤ p.z
  pub high_z : p.z + layer v.pad < v.grid.nz

-- the stored coordinate of one that does not count the layer, where it is inside
abbrev pub stored_coordinate : ℕ → ℕ → ℤ → Option ℕ
stored_coordinate n layer (pos x) = if nat_lt x (n - 2 * layer) then Some (x + layer) else None
stored_coordinate n layer (negsuc x) = None

-- the point of three coordinates that are all there
abbrev pub point_by : Option ℕ → Option ℕ → Option ℕ → Option Point
point_by (Some x) (Some y) (Some z) = Some (record { x = x; y = y; z = z })
point_by (Some x) (Some y) None = None
point_by (Some x) None z = None
point_by None y z = None

-- the stored point of coordinates that do not count the layer, where it is inside
unfoldable pub place_of : Volume → ℤ × ℤ × ℤ → Option Point
place_of v at = point_by
    (stored_coordinate v.grid.nx (layer v.pad) at.0)
    (stored_coordinate v.grid.ny (layer v.pad) at.1)
    (stored_coordinate v.grid.nz (layer v.pad) at.2)

-- the stored plane of one that does not count the layer, where it is inside
abbrev pub plane_of : Volume → ℤ → Option ℕ
plane_of v k = stored_coordinate v.grid.nz (layer v.pad) k

-- where a point of the grid without the layer is stored, both by their indices
abbrev pub stored_index : Volume → ℕ → ℕ
stored_index v i = index v.grid
    (coordinate (inner_grid v) 0 i + layer v.pad)
    (coordinate (inner_grid v) 1 i + layer v.pad)
    (coordinate (inner_grid v) 2 i + layer v.pad)

-- the samples of that grid, by index
unfoldable pub inner_samples : Volume → List ℤ
inner_samples v = map (λ i. sample v.samples (stored_index v i)) (below (point_count (inner_grid v)))

-- the volume without its pad
abbrev pub inner_voxels : Volume → Voxels
inner_voxels v = record { grid = inner_grid v; kind = v.kind; samples = inner_samples v }

-- it as a file
unfoldable pub saved_text : Volume → List ℕ
saved_text v = nrrd.save_text (inner_voxels v)

-- as a file in print, of lines of hex digits or of numbers
unfoldable pub saved_in_print : Bool → Volume → List ℕ
saved_in_print hex v = nrrd.coded_save hex (inner_voxels v)

abbrev pub saved_as_text : Volume → List ℕ
saved_as_text v = saved_in_print false v

abbrev pub saved_as_hex : Volume → List ℕ
saved_as_hex v = saved_in_print true v
