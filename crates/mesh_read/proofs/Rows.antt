-- Small texts, by computing.
use Rattle.std.proofs.Common.{◌≡◌, [], ◌∷◌, Ok, Err, refl}
use Rattle.std.specs.Prelude.{codes}
use Rattle.refusals.specs.declared.mesh.MeshFault.TheVariants.{BadHeader, IndexOutside, ShortMesh}
use Rattle.mesh_read.specs.Obj.{obj_of, face_of}
use Rattle.mesh_read.specs.Obj as obj
use Rattle.mesh_read.specs.Ply as ply
use Rattle.mesh_read.specs.Ply.{ply_of}

one_face : obj_of (codes "v\nv 1\n\nvn\nv\r\nf 1 2/5 -1//2\n") ≡ Ok (record { vertex_count = 3; triangles = (0 ∷ 1 ∷ 2 ∷ []) ∷ [] })
unfolding obj.by_first obj.face_of
one_face = refl

outside : obj_of (codes "v\n\nf 1 2 1\nv") ≡ Err (IndexOutside 3)
unfolding obj.by_first obj.face_of
outside = refl

ply_face : ply_of (codes "ply\nformat ascii 1.0\nelement vertex 3\nelement face 1\nproperty list a b vertex_index\nend_header\na\n\nb\nc\n3 0 1 2\n") ≡ Ok (record { vertex_count = 3; triangles = (0 ∷ 1 ∷ 2 ∷ []) ∷ [] })
unfolding ply.by_first ply.is_ply ply.is_binary ply.is_ascii ply.is_version ply.is_corners ply.is_list ply.is_face ply.is_vertex ply.corners_of
ply_face = refl

ply_short : ply_of (codes "ply\nformat ascii 1.0\nelement vertex 3\nend_header\na\n\nb") ≡ Err (ShortMesh 3 2)
unfolding ply.by_first ply.is_ply ply.is_binary ply.is_ascii ply.is_version ply.is_corners ply.is_list ply.is_face ply.is_vertex ply.corners_of
ply_short = refl

ply_header : ply_of (codes "ply\nformat ascii 1.0\nelement face 3\nproperty list vertex_index\nend_header") ≡ Err (BadHeader 3)
unfolding ply.by_first ply.is_ply ply.is_binary ply.is_ascii ply.is_version ply.is_corners ply.is_list ply.is_face ply.is_vertex ply.corners_of
ply_header = refl
