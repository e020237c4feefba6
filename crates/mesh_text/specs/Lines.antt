-- Lines of mesh texts.
use Rattle.std.specs.Prelude.{ℕ, List, ◌∷◌, ◌++◌, codes, decimal, ℤ, pos, slice_index_or}
use Rattle.iso_defs.specs.Bytes.{space, digit_three, lower_f, lower_v}
use Rattle.iso_defs.specs.Texts.{line, decimal_text, numbers_text, vertex_head, face_head}
use Rattle.iso_base.specs.Triangles.{triangle_of}
use Rattle.iso_base.specs.declared.decimal.Thousandth.{Thousandth}
use Rattle.mesh_text.specs.Numbers.{numbers_line}

-- the coordinate along an axis
abbrev pub along : List Thousandth → ℕ → ℤ
along at axis = (slice_index_or at axis (record { 0 = pos 0 })).0

-- the three coordinates of a vertex
abbrev pub coordinates_text : ℤ → ℤ → ℤ → List ℕ
coordinates_text x y z = decimal_text x ++ space ∷ (decimal_text y ++ space ∷ decimal_text z)

-- the line of a vertex in PLY
abbrev pub ply_vertex_line : List Thousandth → List ℕ
ply_vertex_line at = line (coordinates_text (along at 0) (along at 1) (along at 2))

-- the line of a vertex in OBJ
abbrev pub obj_vertex_line : List Thousandth → List ℕ
obj_vertex_line at = line (lower_v ∷ space ∷ coordinates_text (along at 0) (along at 1) (along at 2))

-- the line of a face in PLY, its corners counted from 0
abbrev pub ply_face_line : List ℕ → List ℕ
ply_face_line corners = line (digit_three ∷ space ∷ numbers_text 0 (triangle_of corners))

-- the line of a face in OBJ, its corners counted from 1
abbrev pub obj_face_line : List ℕ → List ℕ
obj_face_line corners = line (lower_f ∷ space ∷ numbers_text 1 (triangle_of corners))

-- the line of a letter and of the texts of three numbers, each with a blank behind it
abbrev pub letter_line : ℕ → List ℕ → List ℕ → List ℕ → List ℕ
letter_line letter a b c = letter ∷ space ∷ numbers_line a b c

-- the head of a PLY text of vertices alone
unfoldable pub points_head : ℕ → List ℕ
points_head vertices = vertex_head vertices ++ line (codes "end_header")

-- the head of a PLY text of a mesh
unfoldable pub ply_head : ℕ → ℕ → List ℕ
ply_head vertices faces = vertex_head vertices ++ (face_head faces ++ line (codes "end_header"))

-- the same heads in the pieces between their numbers
unfoldable pub points_head_bytes : ℕ → List ℕ
points_head_bytes vertices =
    codes "ply\nformat ascii 1.0\nelement vertex " ++ (decimal vertices ++ codes "\nproperty float x\nproperty float y\nproperty float z\nend_header\n")

unfoldable pub ply_head_bytes : ℕ → ℕ → List ℕ
ply_head_bytes vertices faces =
    codes "ply\nformat ascii 1.0\nelement vertex " ++ (decimal vertices ++ (codes "\nproperty float x\nproperty float y\nproperty float z\nelement face "
    ++ (decimal faces ++ codes "\nproperty list uchar int vertex_indices\nend_header\n")))
