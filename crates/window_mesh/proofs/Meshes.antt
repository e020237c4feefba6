-- The mesh of a window is the part of the whole mesh that lies in its box.
use Rattle.std.proofs.Common.{◌≡◌, ap, ◌∙◌, ℤ}
use Rattle.std.specs.Prelude.{None}
use Rattle.iso_base.specs.Points.{IsPoint}
use Rattle.iso_base.specs.Volume.{field, Volume}
use Rattle.voxel_list.specs.Areas.{Area, IsArea}
use Rattle.iso_defs.specs.MeshLists.{FlatMesh}
use Rattle.flat_mesh.specs.Mesh.{mesh_of}
use Rattle.window_laws.specs.Windows.{thin_axis}
use Rattle.window_laws.proofs.Thickness.{thick_of}
use Rattle.window_laws.proofs.VerticesInside.{part_of_mesh}
use Rattle.window_mesh.specs.Crops.{IsWindowOfMesh, window_of, cropped}
use Rattle.window_mesh.proofs.Cropping.{box_is_window, box_is_solid, cropped_field}

pub window_is_part : (v : Volume) (a : Area) (level : ℤ) → IsPoint v.grid a.high → IsArea a → thin_axis (window_of a).grid ≡ None → IsWindowOfMesh v level a
window_is_part v a level inside is none =
    part_of_mesh v.grid (window_of a) (box_is_window v.grid a inside is) (box_is_solid a) (field v.samples level) (field (cropped v a).samples level)
    (cropped_field v a level) (thick_of (window_of a).grid none)

pub window_mesh : (v u : Volume) (a : Area) (level : ℤ) (m : FlatMesh) → u ≡ cropped v a → m ≡ mesh_of u.grid (field u.samples level)
    → m ≡ mesh_of (window_of a).grid (field (cropped v a).samples level)
window_mesh v u a level m crop mesh = mesh ∙ ap (λ (u : Volume). mesh_of u.grid (field u.samples level)) crop
