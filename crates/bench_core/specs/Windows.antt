-- Windows: boxes of points of a volume, each meshed as a volume of its own.
use Rattle.std.specs.Prelude.{◌≡◌, ◌⊎◌, ℕ, ◌-◌, ◌≤◌, List, [], length, Option, Some, None, Result, Ok, Err, IfOk, IfErr, OnOk, ℤ}
use Rattle.iso_defs.specs.Grid.{Grid, size}
use Rattle.iso_base.specs.Volume.{field, Volume, layer}
use Rattle.iso_base.specs.declared.fault.BenchFault.{BenchFault}
use Rattle.iso_base.specs.declared.fault.BenchFault.TheVariants.{Outside, WindowThin}
use Rattle.iso_base.specs.declared.fault.Written.{Written}
use Rattle.iso_base.specs.declared.format.MeshFormat.{MeshFormat}
use Rattle.iso_io.specs.Shelves.{Store, with_file}
use Rattle.voxel_list.specs.Areas.{Area}
use Rattle.iso_defs.specs.MeshLists.{FlatMesh}
use Rattle.flat_mesh.specs.Mesh.{mesh_of}
use Rattle.mesh_more.specs.Texts.{moved_text}
use Rattle.window_laws.specs.Windows.{thin_axis}
use Rattle.window_mesh.specs.Crops.{cropped, window_of}
use Rattle.unpadded_volume.specs.Unpadded.{place_of}
use Rattle.bench_core.specs.Machine.{State, area_by, three_from}
use Rattle.bench_core.specs.Texts.{FailsToWrite}

-- the stored box of two corners, six numbers that do not count the pad's layer, where both are inside
abbrev pub window_area : Volume → List ℤ → Option Area
window_area v corners = area_by (place_of v (three_from corners 0)) (place_of v (three_from corners 3))

-- ---- what is refused

-- a grid that is thin along an axis
abbrev pub thin_fault : Grid → Option ℕ → Option BenchFault
thin_fault g None = None
thin_fault g (Some axis) = Some (WindowThin axis (size g axis))

-- why a box is no window: it is not inside, or it is thin along an axis
abbrev pub window_fault : Option Area → Option BenchFault
window_fault None = Some Outside
window_fault (Some a) = thin_fault (window_of a).grid (thin_axis (window_of a).grid)

-- a state that stays, unless a fault is there
abbrev pub stays_unless : State → Option BenchFault → Result State BenchFault
stays_unless s None = Ok s
stays_unless s (Some fault) = Err fault

-- `window`
abbrev pub window_step : State → List ℤ → Result State BenchFault
window_step s corners = stays_unless s (window_fault (window_area s.volume corners))

-- ---- what is written

-- the least corner of a stored box in the volume without its pad
abbrev pub inner_corner : Volume → Area → ℕ × ℕ × ℕ
inner_corner v a = (a.low.x - layer v.pad, a.low.y - layer v.pad, a.low.z - layer v.pad)

-- the mesh of the points of a box at a level, from scratch, as if they were a volume of their own
abbrev pub mesh_in : Volume → ℤ → Area → FlatMesh
mesh_in v level a = mesh_of (window_of a).grid (field (cropped v a).samples level)

-- a mesh in a format, its positions moved to where the box lies in the volume without its pad
abbrev pub text_at : Volume → Area → MeshFormat → FlatMesh → List ℕ
text_at v a format m = moved_text format (inner_corner v a) m.vertex_list m.triangle_list

-- the text of a window: the mesh of the box in its place, in a format
unfoldable pub window_text : Volume → ℤ → Option Area → MeshFormat → List ℕ
window_text v level None format = []
window_text v level (Some a) format = text_at v a format (mesh_in v level a)

-- how many vertices and faces a mesh has, and how many bytes a text of it
abbrev pub numbers_with : FlatMesh → List ℕ → Written
numbers_with m text = record { vertices = length m.vertex_list; faces = length m.triangle_list; bytes = length text }

-- the numbers of vertices, of faces and of bytes of a window's text
unfoldable pub window_written : Volume → ℤ → Option Area → MeshFormat → Written
window_written v level None format = record { vertices = 0; faces = 0; bytes = 0 }
window_written v level (Some a) format = numbers_with (mesh_in v level a) (text_at v a format (mesh_in v level a))

-- ---- what a call does

-- The box is no window and the shelf was not touched; or it is one, and memory was wanted or the shelf failed.
abbrev pub FailsAsWindow : Option Area → List ℕ → Store → Store → BenchFault → List ℕ → Type 0
FailsAsWindow box text old new fault name =
    ((window_fault box ≡ Some fault) × (new ≡ old)) ⊎ ((window_fault box ≡ None) × FailsToWrite old new fault name text)

-- The box is a window, the file is now its text, all others stay, and its numbers are answered; or it could not be written.
pub record WritesWindow (v : Volume) (level : ℤ) (box : Option Area) (format : MeshFormat) (old new : Store)
    (result : Result Written BenchFault)
    (name : List ℕ) : Type 0 where
  pub window : OnOk result (window_fault box ≡ None)
  pub numbers : IfOk result (λ w. w ≡ window_written v level box format)
  pub file : IfOk result (λ _. new.files ≡ with_file name (window_text v level box format) old.files)
  pub fault : IfErr result (λ fault. FailsAsWindow box (window_text v level box format) old new fault name)
  pub later : old.faults ≤ new.faults
