-- Meshes as OFF and VTK texts, and in each format with their positions moved.
use Rattle.std.specs.Prelude.{ℕ, ◌*◌, List, ◌∷◌, ◌++◌, codes, decimal, ◌+◌, length, map, false}
use Rattle.iso_defs.specs.Bytes.{space, digit_three}
use Rattle.iso_defs.specs.Texts.{counted, counted_twice, line, position_text, numbers_text, ply_text, obj_text}
use Rattle.std.specs.List.{flat_map}
use Rattle.iso_defs.specs.Cell.{Triangle}
use Rattle.iso_defs.specs.Place.{Position}
use Rattle.iso_base.specs.declared.format.MeshFormat.{MeshFormat}
use Rattle.iso_base.specs.declared.format.MeshFormat.TheVariants.{Ply, Obj, Off, Vtk}

-- the two lines of an OFF text before its vertices: the last number is that of edges, which is not told
unfoldable pub off_head : ℕ → ℕ → List ℕ
off_head vertices faces = line (codes "OFF") ++ line (decimal vertices ++ space ∷ (decimal faces ++ codes " 0"))

-- the lines of a VTK text before its vertices
unfoldable pub vtk_head : ℕ → List ℕ
vtk_head vertices =
    line (codes "# vtk DataFile Version 3.0") ++ (line (codes "isobench") ++ (line (codes "ASCII")
    ++ (line (codes "DATASET POLYDATA") ++ line (counted (codes "POINTS ") vertices ++ codes " float"))))

-- the line of a VTK text before its faces: how many there are, and how many numbers stand in their lines
unfoldable pub vtk_faces : ℕ → List ℕ
vtk_faces faces = line (counted_twice (codes "POLYGONS ") faces (4 * faces))

-- the lines of vertices, and of triangles, as in PLY
abbrev pub vertex_lines : List (ℕ × Position) → List ℕ
vertex_lines vs = flat_map (λ (v : ℕ × Position). line (position_text false v.1)) vs

abbrev pub face_lines : List Triangle → List ℕ
face_lines ts = flat_map (λ (t : Triangle). line (digit_three ∷ space ∷ numbers_text 0 t)) ts

-- a mesh as OFF
abbrev pub off_text : List (ℕ × Position) → List Triangle → List ℕ
off_text vs ts = off_head (length vs) (length ts) ++ (vertex_lines vs ++ face_lines ts)

-- a mesh as VTK
abbrev pub vtk_text : List (ℕ × Position) → List Triangle → List ℕ
vtk_text vs ts = vtk_head (length vs) ++ (vertex_lines vs ++ (vtk_faces (length ts) ++ face_lines ts))

-- a mesh in a format
abbrev pub text_in : MeshFormat → List (ℕ × Position) → List Triangle → List ℕ
text_in Ply vs ts = ply_text false vs ts
text_in Obj vs ts = obj_text false vs ts
text_in Off vs ts = off_text vs ts
text_in Vtk vs ts = vtk_text vs ts

-- a position moved by so many points along each axis
abbrev pub moved : ℕ × ℕ × ℕ → Position → Position
moved by p = (1000 * by.0 + p.0, 1000 * by.1 + p.1, 1000 * by.2 + p.2)

-- a vertex whose position is moved
abbrev pub moved_vertex : ℕ × ℕ × ℕ → ℕ × Position → ℕ × Position
moved_vertex by v = (v.0, moved by v.1)

-- a mesh in a format, each position moved by so many points along each axis
abbrev pub moved_text : MeshFormat → ℕ × ℕ × ℕ → List (ℕ × Position) → List Triangle → List ℕ
moved_text format by vs ts = text_in format (map (moved_vertex by) vs) ts
