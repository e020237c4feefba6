-- The texts of the mesh of a volume with padding or without, in the formats that are also read.
use Rattle.std.specs.Prelude.{ℕ, ℤ, Bool, List, length}
use Rattle.iso_defs.specs.Grid.{Grid}
use Rattle.iso_defs.specs.Scratch.{vertices, triangles}
use Rattle.iso_defs.specs.Texts.{ply_text, obj_text}
use Rattle.iso_base.specs.declared.fault.Written.{Written}
use Rattle.iso_defs.specs.MeshLists.{FlatMesh}
use Rattle.mesh_text.specs.declared.format.TwoWayFormat.{TwoWayFormat}
use Rattle.mesh_text.specs.declared.format.TwoWayFormat.TheVariants.{Ply, Obj}

-- a mesh as PLY
unfoldable pub ply_of : Bool → FlatMesh → List ℕ
ply_of padded m = ply_text padded m.vertex_list m.triangle_list

-- a mesh as OBJ
unfoldable pub obj_of : Bool → FlatMesh → List ℕ
obj_of padded m = obj_text padded m.vertex_list m.triangle_list

-- a mesh in either format
abbrev pub two_way_text : TwoWayFormat → Bool → FlatMesh → List ℕ
two_way_text Ply padded m = ply_of padded m
two_way_text Obj padded m = obj_of padded m

-- its numbers of vertices, faces and bytes, where these are its bytes
abbrev pub written_with : FlatMesh → List ℕ → Written
written_with m text = record { vertices = length m.vertex_list; faces = length m.triangle_list; bytes = length text }

abbrev pub ply_written : Bool → FlatMesh → Written
ply_written padded m = written_with m (ply_of padded m)

abbrev pub obj_written : Bool → FlatMesh → Written
obj_written padded m = written_with m (obj_of padded m)

abbrev pub two_way_written : TwoWayFormat → Bool → FlatMesh → Written
two_way_written format padded m = written_with m (two_way_text format padded m)

-- the mesh of a field as OBJ
abbrev pub scratch_obj : Bool → Grid → (ℕ → ℤ) → List ℕ
scratch_obj padded g s = obj_text padded (vertices g s) (triangles g s)
