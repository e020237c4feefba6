-- The triangle list that a PLY text gives, or the first refusal.
use Rattle.std.specs.Prelude.{ℕ, ◌+◌, Bool, true, false, ◌==◌, ◌||◌, ◌&&◌, not, nat_lt, List, [], ◌∷◌, map, take, drop, length, filter, filter_map, zip, bytes_eq, Option, Some, None, option_and_then, ok_or, Result, Ok, Err, if◌then◌else◌, codes}
use Rattle.std.specs.Option.{option_or}
use Rattle.std.specs.List.{slice_get, range_with_len, list_any}
use Rattle.iso_base.specs.Triangles.{Mesh}
use Rattle.refusals.specs.declared.mesh.MeshFault.{MeshFault}
use Rattle.refusals.specs.declared.mesh.MeshFault.TheVariants.{NotMesh, BinaryPly, BadHeader, BadNumber, NotTriangle, IndexOutside, ShortMesh, TooMany}
use Rattle.text_lines.specs.Lines.{texts_of}
use Rattle.text_lines.specs.Words.{words_of}
use Rattle.text_lines.specs.Numbers.{digits_value}
use Rattle.mesh_read.specs.Answers.{◌>>=◌, all_or_first, unless_fault}

-- what a line of the header says
pub data Heading : Type 0 where
  IsUnread : Heading
  IsAscii : Heading
  IsBinary : Heading
  IsElement : List ℕ → ℕ → Heading
  IsProperty : Bool → Heading
  IsEnd : Heading
  IsOther : Heading

-- the words of the two formats that are not read
unfoldable pub is_binary : List ℕ → Bool
is_binary word = bytes_eq word (codes "binary_little_endian") || bytes_eq word (codes "binary_big_endian")

-- the word of the format that is read
unfoldable pub is_ascii : List ℕ → Bool
is_ascii word = bytes_eq word (codes "ascii")

-- the version of the format
unfoldable pub is_version : List ℕ → Bool
is_version word = bytes_eq word (codes "1.0")

-- the version, and no further word
abbrev pub version_alone : List (List ℕ) → Bool
version_alone (word ∷ []) = is_version word
version_alone _ = false

-- behind the word format
abbrev pub format_line : List (List ℕ) → Heading
format_line [] = IsOther
format_line (word ∷ words) = if is_binary word then IsBinary else if is_ascii word && version_alone words
    then IsAscii else IsOther

-- an element with the count that its word gives
abbrev pub counted : List ℕ → Option ℕ → Heading
counted name None = IsOther
counted name (Some n) = IsElement name n

-- behind the word element: a name and a count
abbrev pub element_line : List (List ℕ) → Heading
element_line (name ∷ count ∷ []) = counted name (digits_value count)
element_line _ = IsOther

-- the names that the list of a face's corners may have
unfoldable pub is_corners : List ℕ → Bool
is_corners name = bytes_eq name (codes "vertex_indices") || bytes_eq name (codes "vertex_index")

-- the word that makes a property a list
unfoldable pub is_list : List ℕ → Bool
is_list word = bytes_eq word (codes "list")

-- the types are not read
abbrev pub property_line : List (List ℕ) → Heading
property_line (kind ∷ name ∷ []) = IsProperty false
property_line (word ∷ count ∷ kind ∷ name ∷ []) = if is_list word then IsProperty (is_corners name) else IsOther
property_line _ = IsOther

-- behind the word end_header: nothing
abbrev pub end_line : List (List ℕ) → Heading
end_line [] = IsEnd
end_line _ = IsOther

-- a line by its first word and the others
unfoldable pub by_first : List ℕ → List (List ℕ) → Heading
by_first word words =
    if bytes_eq word (codes "comment") || bytes_eq word (codes "obj_info") then IsUnread else
    if bytes_eq word (codes "format") then format_line words else
    if bytes_eq word (codes "element") then element_line words else
    if bytes_eq word (codes "property") then property_line words else
    if bytes_eq word (codes "end_header") then end_line words else
    IsOther

-- a line by its words; without words it is not read
abbrev pub heading_of : List (List ℕ) → Heading
heading_of [] = IsUnread
heading_of (word ∷ words) = by_first word words

-- the end of the header
abbrev pub is_end : Heading → Bool
is_end IsEnd = true
is_end _ = false

-- the format line
abbrev pub is_format : Heading → Bool
is_format IsAscii = true
is_format _ = false

-- the name and the count of an element
abbrev pub element_in : Heading → Option (List ℕ × ℕ)
element_in (IsElement name n) = Some (name, n)
element_in _ = None

-- the elements that lines declare, in order
abbrev pub elements : List Heading → List (List ℕ × ℕ)
elements heads = filter_map element_in heads

-- whether there is an element of this name
abbrev pub has_name : List ℕ → List (List ℕ × ℕ) → Bool
has_name name es = list_any (λ (e : List ℕ × ℕ). bytes_eq e.0 name) es

-- a bad header line, where it is so
abbrev pub bad_if : ℕ → Bool → Option MeshFault
bad_if line bad = if bad then Some (BadHeader line) else None

-- what is wrong with a line, behind the lines before it
abbrev pub fault_of : List Heading → ℕ → Heading → Option MeshFault
fault_of before line IsUnread = None
fault_of before line IsAscii = bad_if line (list_any is_format before)
fault_of before line IsBinary = Some BinaryPly
fault_of before line (IsElement name n) = bad_if line
    (not (list_any is_format before) || has_name name (elements before))
fault_of before line (IsProperty corners) = bad_if line (length (elements before) == 0)
fault_of before line IsEnd = bad_if line (not (list_any is_format before))
fault_of before line IsOther = Some (BadHeader line)

-- the lines up to the first end
abbrev pub up_to_end : List Heading → List Heading
up_to_end [] = []
up_to_end (h ∷ hs) = if is_end h then h ∷ [] else h ∷ up_to_end hs

-- index 0 is line 2
abbrev pub fault_at : List Heading → ℕ → Option MeshFault
fault_at heads k = option_and_then (fault_of (take k heads) (k + 2)) (slice_get heads k)

-- the first of n indices that gives something
abbrev pub first_of : {A : Type 0} → (ℕ → Option A) → ℕ → Option A
first_of f n = slice_get (filter_map f (range_with_len 0 n)) 0

-- the first property or element after an element is a list of corners
abbrev pub corners_in : Heading → Option Bool
corners_in (IsProperty corners) = Some corners
corners_in (IsElement name n) = Some false
corners_in _ = None

-- no where there is none
abbrev pub or_false : Option Bool → Bool
or_false None = false
or_false (Some b) = b

-- whether the element before these lines begins with a list of corners
abbrev pub begins_corners : List Heading → Bool
begins_corners heads = or_false (slice_get (filter_map corners_in heads) 0)

-- the name of the element of triangles
unfoldable pub is_face : List ℕ → Bool
is_face name = bytes_eq name (codes "face")

-- the name of the element of vertices
unfoldable pub is_vertex : List ℕ → Bool
is_vertex name = bytes_eq name (codes "vertex")

-- the element of triangles is faulty where the lines behind it do not begin with a list of corners
abbrev pub face_fault_of : List Heading → ℕ → Heading → Option MeshFault
face_fault_of after line (IsElement name n) = bad_if line (is_face name && not (begins_corners after))
face_fault_of after line _ = None

-- the same for the line at an index
abbrev pub face_fault_at : List Heading → ℕ → Option MeshFault
face_fault_at heads k = option_and_then (face_fault_of (drop (k + 1) heads) (k + 2)) (slice_get heads k)

-- a count above 2^30
abbrev pub too_many : List ℕ × ℕ → Option MeshFault
too_many e = if nat_lt 1073741824 e.1 then Some (TooMany e.1) else None

-- the faults of lines, an end that is wanting, the face element, and the counts. The line before these is line 1
abbrev pub header_fault : List Heading → Option MeshFault
header_fault heads =
    option_or (first_of (fault_at (up_to_end heads)) (length (up_to_end heads))) (
    option_or (bad_if (length heads + 2) (not (list_any is_end heads))) (
    option_or (first_of (face_fault_at (up_to_end heads)) (length (up_to_end heads)))
    (slice_get (filter_map too_many (elements (up_to_end heads))) 0)))

-- the count of the element of a name
abbrev pub count_of : (List ℕ → Bool) → List (List ℕ × ℕ) → ℕ
count_of named [] = 0
count_of named (e ∷ es) = if named e.0 then e.1 else count_of named es

-- the lines of all elements
abbrev pub total : List (List ℕ × ℕ) → ℕ
total [] = 0
total (e ∷ es) = e.1 + total es

-- the lines before the faces
abbrev pub before_faces : List (List ℕ × ℕ) → ℕ
before_faces [] = 0
before_faces (e ∷ es) = if is_face e.0 then 0 else e.1 + before_faces es

-- a line with words
abbrev pub has_words : List (List ℕ) → Bool
has_words [] = false
has_words (word ∷ words) = true

-- the lines with words, each behind its number
abbrev pub with_words : List (ℕ × List (List ℕ)) → List (ℕ × List (List ℕ))
with_words lines = filter (λ (l : ℕ × List (List ℕ)). has_words l.1) lines

-- lines with their numbers
abbrev pub numbered : ℕ → List (List (List ℕ)) → List (ℕ × List (List ℕ))
numbered first lines = zip (range_with_len first (length lines)) lines

-- three indices, and what follows is not read
abbrev pub three_first : List (List ℕ) → Option (List ℕ × List ℕ × List ℕ)
three_first (a ∷ b ∷ c ∷ more) = Some (a, b, c)
three_first _ = None

-- an index that must be below n
abbrev pub below : ℕ → ℕ → ℕ → Result ℕ MeshFault
below n line v = if nat_lt v n then Ok v else Err (IndexOutside line)

-- the corners of a face line below n vertices
unfoldable pub corners_of : ℕ → ℕ → List (List ℕ) → Result (List ℕ) MeshFault
corners_of n line words = do
  three ← ok_or (three_first words) (BadNumber line)
  a ← ok_or (digits_value three.0) (BadNumber line)
  b ← ok_or (digits_value three.1) (BadNumber line)
  c ← ok_or (digits_value three.2) (BadNumber line)
  x ← below n line a
  y ← below n line b
  z ← below n line c
  Ok (x ∷ y ∷ z ∷ [])

-- the corners, where the line begins with the number 3
abbrev pub with_three : ℕ → ℕ → List (List ℕ) → Result ℕ MeshFault → Result (List ℕ) MeshFault
with_three n line words (Err fault) = Err fault
with_three n line words (Ok k) = if k == 3 then corners_of n line words else Err (NotTriangle line)

-- the triangle of a numbered line, of n vertices
abbrev pub face_of : ℕ → ℕ × List (List ℕ) → Result (List ℕ) MeshFault
face_of n (line, []) = Err (BadNumber line)
face_of n (line, word ∷ words) = with_three n line words (ok_or (digits_value word) (BadNumber line))

-- the faces among the lines behind the header, and then the number of these lines
abbrev pub body_of : ℕ → ℕ → ℕ → ℕ → List (ℕ × List (List ℕ)) → Result Mesh MeshFault
body_of n before count all lines = do
  triangles ← all_or_first (map (face_of n) (take count (drop before lines)))
  if nat_lt (length lines) all then Err (ShortMesh all (length lines))
      else Ok (record { vertex_count = n; triangles = triangles })

-- the mesh of these elements and of the numbered lines behind the header
abbrev pub mesh_of : List (List ℕ × ℕ) → List (ℕ × List (List ℕ)) → Result Mesh MeshFault
mesh_of es lines = body_of (count_of is_vertex es) (before_faces es) (count_of is_face es) (total es) lines

-- the mesh of the lines behind the first, by their words and by what these say
abbrev pub lines_mesh : List (List (List ℕ)) → List Heading → Result Mesh MeshFault
lines_mesh lines heads =
    unless_fault (header_fault heads)
    (mesh_of (elements (up_to_end heads)) (with_words
    (numbered (length (up_to_end heads) + 2) (drop (length (up_to_end heads)) lines))))

-- the words of each line
abbrev pub ply_words : List ℕ → List (List (List ℕ))
ply_words bytes = map words_of (texts_of bytes)

-- what each line says as a line of a header
abbrev pub ply_heads : List ℕ → List Heading
ply_heads bytes = map heading_of (ply_words bytes)

-- the first line
unfoldable pub is_ply : List ℕ → Bool
is_ply text = bytes_eq text (codes "ply")

-- the mesh of all lines
abbrev pub by_texts : List (List ℕ) → Result Mesh MeshFault
by_texts [] = Err NotMesh
by_texts (first ∷ texts) = if is_ply first
    then lines_mesh (map words_of texts) (map heading_of (map words_of texts)) else Err NotMesh

-- the mesh that a PLY text gives, or the first refusal
abbrev pub ply_of : List ℕ → Result Mesh MeshFault
ply_of bytes = by_texts (texts_of bytes)
