-- What one pass over a header has seen so far. No public definition rests on it.
use Rattle.std.specs.Prelude.{ℕ, ◌+◌, Bool, true, false, not, nat_lt, ◌||◌, ◌==◌, List, ◌∷◌, [], ◌++◌, filter_map, length, option_map, Option, Some, None, if◌then◌else◌}
use Rattle.std.specs.Option.{option_or}
use Rattle.std.specs.List.{slice_get}
use Rattle.refusals.specs.declared.mesh.MeshFault.{MeshFault}
use Rattle.refusals.specs.declared.mesh.MeshFault.TheVariants.{BinaryPly, BadHeader}
use Rattle.mesh_read.specs.declared.heading.Heading.{Heading}
use Rattle.mesh_read.specs.declared.heading.Heading.TheVariants as code
use Rattle.mesh_read.specs.declared.header.Header.{Header}
use Rattle.mesh_read.specs.Ply as ply

-- a line of the header, without where it lies in memory
abbrev pub seen_heading : Heading → ply.Heading
seen_heading code.Unread = ply.IsUnread
seen_heading code.Ascii = ply.IsAscii
seen_heading code.Binary = ply.IsBinary
seen_heading (code.Element name n) = ply.IsElement name.now n
seen_heading (code.Property corners) = ply.IsProperty corners
seen_heading code.End = ply.IsEnd
seen_heading code.Other = ply.IsOther

-- whether the format came, the elements, the line of a face element with no property yet, and of one without its list, the first fault, and the next line
pub record Told : Type 0 where
  pub format : Bool
  pub elements : List (List ℕ × ℕ)
  pub open_face : Option ℕ
  pub bad_face : Option ℕ
  pub fault : Option MeshFault
  pub number : ℕ

-- before the first line behind `ply`
abbrev pub start : Told
start = record { format = false; elements = []; open_face = None; bad_face = None; fault = None; number = 2 }

-- what the code holds while no line had a fault
abbrev pub told : Header → Told
told h = record {
  format = h.format;
  elements = h.elements;
  open_face = h.open_face;
  bad_face = h.bad_face;
  fault = None;
  number = h.number;
}

-- the fault of the line by what was seen
abbrev pub fault_now : Told → ply.Heading → Option MeshFault
fault_now t ply.IsUnread = None
fault_now t ply.IsAscii = ply.bad_if t.number t.format
fault_now t ply.IsBinary = Some BinaryPly
fault_now t (ply.IsElement name n) = ply.bad_if t.number (not t.format || ply.has_name name t.elements)
fault_now t (ply.IsProperty corners) = ply.bad_if t.number (length t.elements == 0)
fault_now t ply.IsEnd = ply.bad_if t.number (not t.format)
fault_now t ply.IsOther = Some (BadHeader t.number)

-- whether the format came, behind one more line
abbrev pub format_now : Told → ply.Heading → Bool
format_now t ply.IsAscii = true
format_now t _ = t.format

-- the elements behind one more line
abbrev pub elements_now : Told → ply.Heading → List (List ℕ × ℕ)
elements_now t (ply.IsElement name n) = t.elements ++ (name, n) ∷ []
elements_now t _ = t.elements

-- the line of a face element that has no property yet
abbrev pub open_now : Told → ply.Heading → Option ℕ
open_now t (ply.IsElement name n) = if ply.is_face name then Some t.number else None
open_now t (ply.IsProperty corners) = None
open_now t _ = t.open_face

-- the line of a face element without its list
abbrev pub bad_now : Told → ply.Heading → Option ℕ
bad_now t (ply.IsElement name n) = option_or t.bad_face t.open_face
bad_now t (ply.IsProperty corners) = if corners then t.bad_face else option_or t.bad_face t.open_face
bad_now t _ = t.bad_face

-- one more line
abbrev pub after_heading : Told → ply.Heading → Told
after_heading t h = record {
  format = format_now t h;
  elements = elements_now t h;
  open_face = open_now t h;
  bad_face = bad_now t h;
  fault = option_or t.fault (fault_now t h);
  number = t.number + 1;
}

-- these lines more
abbrev pub all_told : Told → List ply.Heading → Told
all_told t [] = t
all_told t (h ∷ hs) = all_told (after_heading t h) hs

-- a faulty line of the header
abbrev pub bad_header : ℕ → MeshFault
bad_header line = BadHeader line

-- the fault of the face element, then of a count, by what was seen
abbrev pub late_fault : Told → Option MeshFault
late_fault t =
    option_or (option_map bad_header (option_or t.bad_face t.open_face))
    (slice_get (filter_map ply.too_many t.elements) 0)

-- the first fault of a header, by what was seen
abbrev pub fault_told : Told → Bool → Option MeshFault
fault_told t ended = option_or t.fault (option_or (ply.bad_if t.number (not ended)) (late_fault t))

-- whether line i is from lo to hi
abbrev pub inside : ℕ → ℕ → ℕ → Bool
inside lo hi i = if nat_lt i lo then false else nat_lt i hi
