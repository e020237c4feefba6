-- The triangle list that an OBJ text gives, or the first refusal.
use Rattle.std.specs.Prelude.{ℕ, suc, ◌+◌, ◌-◌, Bool, true, false, ◌==◌, ◌&&◌, nat_le, nat_lt, List, [], ◌∷◌, map, take, length, filter_map, filter, bytes_eq, ℤ, pos, negsuc, Option, Some, None, ok_or, Result, Ok, if◌then◌else◌, codes}
use Rattle.std.specs.List.{slice_get, range_with_len, before_first}
use Rattle.iso_defs.specs.Bytes.{slash}
use Rattle.iso_base.specs.Triangles.{Mesh}
use Rattle.refusals.specs.declared.mesh.MeshFault.{MeshFault}
use Rattle.refusals.specs.declared.mesh.MeshFault.TheVariants.{BadNumber, NotTriangle, IndexOutside}
use Rattle.text_lines.specs.Lines.{texts_of}
use Rattle.text_lines.specs.Words.{words_of, three_in}
use Rattle.text_lines.specs.Numbers.{integer_of}
use Rattle.mesh_read.specs.Answers.{◌>>=◌, all_or_first}

-- a line is a vertex, or a face with its references, or is not read
pub data Saying : Type 0 where
  IsVertex : Saying
  IsFace : List (List ℕ) → Saying
  IsUnread : Saying

-- a line by its first word and the others
unfoldable pub by_first : List ℕ → List (List ℕ) → Saying
by_first word words = if bytes_eq word (codes "v") then IsVertex else if bytes_eq word (codes "f") then IsFace words else IsUnread

-- a line by its words
abbrev pub saying_of : List (List ℕ) → Saying
saying_of [] = IsUnread
saying_of (word ∷ words) = by_first word words

-- a vertex line
abbrev pub is_vertex : Saying → Bool
is_vertex IsVertex = true
is_vertex (IsFace references) = false
is_vertex IsUnread = false

-- how many vertex lines there are
abbrev pub vertices : List Saying → ℕ
vertices says = length (filter is_vertex says)

-- the number in front of the first slash
abbrev pub reference_number : List ℕ → Option ℤ
reference_number word = integer_of (before_first (λ b. b == slash) word)

-- the vertex that a number names behind n vertices
abbrev pub vertex_named : ℕ → ℤ → Option ℕ
vertex_named n (pos a) = if nat_le 1 a && nat_le a n then Some (a - 1) else None
vertex_named n (negsuc a) = if nat_lt a n then Some (n - suc a) else None

-- the corners of the face on a line, behind n vertices
unfoldable pub face_of : ℕ → ℕ → List (List ℕ) → Result (List ℕ) MeshFault
face_of n line references = do
  words ← ok_or (three_in references) (NotTriangle line)
  a ← ok_or (reference_number words.0) (BadNumber line)
  b ← ok_or (reference_number words.1) (BadNumber line)
  c ← ok_or (reference_number words.2) (BadNumber line)
  x ← ok_or (vertex_named n a) (IndexOutside line)
  y ← ok_or (vertex_named n b) (IndexOutside line)
  z ← ok_or (vertex_named n c) (IndexOutside line)
  Ok (x ∷ y ∷ z ∷ [])

-- the triangle of a line that is a face
abbrev pub if_face : ℕ → ℕ → Option Saying → Option (Result (List ℕ) MeshFault)
if_face n line (Some (IsFace references)) = Some (face_of n line references)
if_face n line _ = None

-- the face at an index, where index 0 is line 1, behind the vertices above it
abbrev pub face_at : List Saying → ℕ → Option (Result (List ℕ) MeshFault)
face_at says k = if_face (vertices (take k says)) (k + 1) (slice_get says k)

-- the triangles of all faces, in order, each a list of three numbers or a refusal
abbrev pub faces : List Saying → List (Result (List ℕ) MeshFault)
faces says = filter_map (face_at says) (range_with_len 0 (length says))

-- what each line says
abbrev pub sayings : List ℕ → List Saying
sayings bytes = map (λ text. saying_of (words_of text)) (texts_of bytes)

-- the mesh of these lines, or the first refusal
abbrev pub mesh_said : List Saying → Result Mesh MeshFault
mesh_said says = do
  triangles ← all_or_first (faces says)
  Ok (record { vertex_count = vertices says; triangles = triangles })

-- the mesh that an OBJ text gives, or the first refusal
abbrev pub obj_of : List ℕ → Result Mesh MeshFault
obj_of bytes = mesh_said (sayings bytes)
