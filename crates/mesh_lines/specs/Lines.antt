-- The text of a mesh in a style: its format, and where its coordinates are counted from.
use Rattle.std.specs.Prelude.{ℕ, ◌+◌, ◌*◌, ◌==◌, if◌then◌else◌, ℤ, pos, List, [], ◌∷◌, ◌++◌, length, slice_index, true}
use Rattle.std.specs.List.{flat_map}
use Rattle.iso_defs.specs.Bytes.{space, digit_three, lower_f, lower_v}
use Rattle.iso_defs.specs.Cell.{Triangle}
use Rattle.iso_defs.specs.Place.{Position}
use Rattle.iso_defs.specs.Texts.{line, numbers_text, printed}
use Rattle.iso_base.specs.declared.fault.Written.{Written}
use Rattle.iso_base.specs.declared.format.MeshFormat.{MeshFormat}
use Rattle.iso_base.specs.declared.format.MeshFormat.TheVariants.{Ply, Obj, Off, Vtk}
use Rattle.iso_defs.specs.MeshLists.{FlatMesh}
use Rattle.mesh_text.specs.Lines.{coordinates_text, ply_head}
use Rattle.mesh_more.specs.Texts.{off_head, vtk_faces, vtk_head}
use Rattle.mesh_lines.specs.declared.style.Origin.{Origin}
use Rattle.mesh_lines.specs.declared.style.Origin.TheVariants.{Volume, Pad, Window, PaddedSlab}
use Rattle.mesh_lines.specs.declared.style.Style.{Style}

-- a coordinate along an axis as it is printed: less the pad's layer, or counted from the first point of the larger volume, or
-- each where a padded slab has a layer and where it has none
abbrev pub origin_coordinate : Origin → ℕ → ℕ → ℤ
origin_coordinate Volume axis n = pos n
origin_coordinate Pad axis n = printed true n
origin_coordinate (Window at) axis n = pos (1000 * slice_index (at.x ∷ at.y ∷ at.z ∷ []) axis + n)
origin_coordinate (PaddedSlab below) axis n = if axis == 2 then pos (1000 * below + n) else printed true n

-- a position as its numbers are printed
abbrev pub origin_text : Origin → Position → List ℕ
origin_text origin p = coordinates_text (origin_coordinate origin 0 p.0) (origin_coordinate origin 1 p.1)
    (origin_coordinate origin 2 p.2)

-- what stands before these numbers: OBJ names the line
abbrev pub vertex_letter : MeshFormat → List ℕ
vertex_letter Ply = []
vertex_letter Obj = lower_v ∷ space ∷ []
vertex_letter Off = []
vertex_letter Vtk = []

-- the line of a vertex
unfoldable pub vertex_line : Style → ℕ × Position → List ℕ
vertex_line style v = line (vertex_letter style.format ++ origin_text style.origin v.1)

-- the line of a triangle: OBJ names it and counts vertices from 1, the others say that it has three corners
unfoldable pub face_line : MeshFormat → Triangle → List ℕ
face_line Ply t = line (digit_three ∷ space ∷ numbers_text 0 t)
face_line Obj t = line (lower_f ∷ space ∷ numbers_text 1 t)
face_line Off t = line (digit_three ∷ space ∷ numbers_text 0 t)
face_line Vtk t = line (digit_three ∷ space ∷ numbers_text 0 t)

-- what stands before the vertices
abbrev pub head_of : MeshFormat → ℕ → ℕ → List ℕ
head_of Ply vertices faces = ply_head vertices faces
head_of Obj vertices faces = []
head_of Off vertices faces = off_head vertices faces
head_of Vtk vertices faces = vtk_head vertices

-- what stands between the vertices and the triangles
abbrev pub middle_of : MeshFormat → ℕ → List ℕ
middle_of Ply faces = []
middle_of Obj faces = []
middle_of Off faces = []
middle_of Vtk faces = vtk_faces faces

-- the text of a mesh
unfoldable pub text_of : Style → FlatMesh → List ℕ
text_of style m =
    head_of style.format (length m.vertex_list) (length m.triangle_list)
    ++ (flat_map (vertex_line style) m.vertex_list
    ++ (middle_of style.format (length m.triangle_list) ++ flat_map (face_line style.format) m.triangle_list))

-- its numbers of vertices, faces and bytes
abbrev pub written_of : Style → FlatMesh → Written
written_of style m = record {
  vertices = length m.vertex_list;
  faces = length m.triangle_list;
  bytes = length (text_of style m);
}
