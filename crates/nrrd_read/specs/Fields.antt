-- What the lines of a header say.
use Rattle.std.specs.Prelude.{ℕ, ◌==◌, List, [], ◌∷◌, length, if◌then◌else◌, ◌+◌, ◌-◌, Bool, true, false, ◌||◌, take, drop, get_or, position, filter_map, Option, Some, None, is_some, codes}
use Rattle.text_lines.specs.Lines.{Line}
use Rattle.std.specs.List.{slice_get, enumerate_from}
use Rattle.std.specs.Option.{option_map_or}
use Rattle.iso_defs.specs.Bytes.{hash, colon, equals_sign}
use Rattle.refusals.specs.declared.nrrd.Field.{Field}
use Rattle.refusals.specs.declared.nrrd.Field.TheVariants.{Dimension, Kind, Sizes, Encoding, Endian, LineSkip, ByteSkip}
use Rattle.refusals.specs.declared.nrrd.NrrdFault.{NrrdFault}
use Rattle.refusals.specs.declared.nrrd.NrrdFault.TheVariants.{BadLine, RepeatedField, Detached}
use Rattle.text_lines.specs.Words.{is_word, trimmed}

-- the texts before the first empty line
abbrev pub header_texts : List Line → List (List ℕ)
header_texts [] = []
header_texts (l ∷ ls) = if length l.text == 0 then [] else l.text ∷ header_texts ls

-- the bytes after the first empty line, and none where there is no such line
abbrev pub sample_bytes : List Line → List ℕ
sample_bytes [] = []
sample_bytes (l ∷ ls) = if length l.text == 0 then l.after else sample_bytes ls

-- the field of a name
unfoldable pub field_named : List ℕ → Option Field
field_named name =
    if is_word name (codes "dimension") then Some Dimension else
    if is_word name (codes "type") then Some Kind else
    if is_word name (codes "sizes") then Some Sizes else
    if is_word name (codes "encoding") then Some Encoding else
    if is_word name (codes "endian") then Some Endian else
    if is_word name (codes "line skip") || is_word name (codes "lineskip") then Some LineSkip else
    if is_word name (codes "byte skip") || is_word name (codes "byteskip") then Some ByteSkip else None

-- what a line says: it is bad, or is not read, or names another file, or gives a field its value
pub data Saying : Type 0 where
  IsBad : Saying
  IsUnread : Saying
  NamesFile : Saying
  Gives : Field → List ℕ → Saying

-- a field line, by its name and its value
unfoldable pub field_line : List ℕ → List ℕ → Saying
field_line name value =
    if is_word name (codes "data file") || is_word name (codes "datafile") then NamesFile else
    option_map_or (λ f. Gives f value) (field_named name) IsUnread

-- a line by the place of its first colon
abbrev pub at_colon : List ℕ → Option ℕ → Saying
at_colon text None = IsBad
at_colon text (Some i) =
    if i == 0 then IsBad else
    if get_or (drop (i + 1) text) 0 0 == equals_sign then IsUnread else
    field_line (trimmed (take i text)) (trimmed (drop (i + 1) text))

-- what a line says; a comment begins with a number sign
unfoldable pub meaning_of : List ℕ → Saying
meaning_of text = if get_or text 0 0 == hash then IsUnread else at_colon text (position (λ b. b == colon) text)

-- whether two fields are one
abbrev pub same_field : Field → Field → Bool
same_field Dimension Dimension = true
same_field Kind Kind = true
same_field Sizes Sizes = true
same_field Encoding Encoding = true
same_field Endian Endian = true
same_field LineSkip LineSkip = true
same_field ByteSkip ByteSkip = true
same_field _ _ = false

-- the value that a line gives the field
abbrev pub value_for : Field → Saying → Option (List ℕ)
value_for f (Gives g value) = if same_field f g then Some value else None
value_for f _ = None

-- the first value of a field
abbrev pub value : Field → List Saying → Option (List ℕ)
value f says = slice_get (filter_map (value_for f) says) 0

-- what is wrong with line n, behind the lines before it
abbrev pub fault_at : List Saying → ℕ → Saying → Option NrrdFault
fault_at before n IsBad = Some (BadLine n)
fault_at before n IsUnread = None
fault_at before n NamesFile = Some (Detached n)
fault_at before n (Gives f text) = if is_some (value f before) then Some (RepeatedField f) else None

-- the first fault of all lines, of which the first is line 2
abbrev pub first_fault : List Saying → Option NrrdFault
first_fault says = slice_get (filter_map (λ l. fault_at (take (l.0 - 2) says) l.0 l.1) (enumerate_from 2 says)) 0
