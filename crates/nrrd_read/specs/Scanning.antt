-- What is read, as the code holds it. No public definition rests on it.
use Rattle.std.specs.Prelude.{ℕ, ◌+◌, List, [], ◌∷◌, Option, Some, None, Result, Ok, Err, option_map, option_and_then, is_some, if◌then◌else◌}
use Rattle.iso_defs.specs.Grid.{Grid, point_count}
use Rattle.iso_base.specs.Volume.{Voxels}
use Rattle.refusals.specs.declared.nrrd.Field.{Field}
use Rattle.refusals.specs.declared.nrrd.Field.TheVariants.{Dimension, Kind, Sizes, Encoding, Endian, LineSkip, ByteSkip}
use Rattle.refusals.specs.declared.nrrd.NrrdFault.{NrrdFault}
use Rattle.refusals.specs.declared.nrrd.NrrdFault.TheVariants.{BadLine, RepeatedField, Detached}
use Rattle.nrrd_read.specs.declared.header.Header.{Header}
use Rattle.nrrd_read.specs.declared.meaning.Meaning.{Meaning}
use Rattle.nrrd_read.specs.declared.meaning.Meaning.TheVariants as seen
use Rattle.nrrd_read.specs.declared.layout.Layout.{Layout}
use Rattle.nrrd_read.specs.Fields.{Saying, IsBad, IsUnread, NamesFile, Gives, value}
use Rattle.nrrd_read.specs.Nrrd.{samples_by, voxels_of}
use Rattle.text_lines.specs.Lines.{◌>>=◌}
use Rattle.text_lines.specs.Numbers.{whole_of}

-- the value, as it is seen
abbrev pub map_ok : {A B : Type 0} → (A → B) → Result A NrrdFault → Result B NrrdFault
map_ok f (Ok x) = Ok (f x)
map_ok f (Err e) = Err e

-- what a line says, without where it lies in memory
abbrev pub seen_line : Meaning → Saying
seen_line seen.Bad = IsBad
seen_line seen.Unread = IsUnread
seen_line seen.Detached = NamesFile
seen_line (seen.Value f text) = Gives f text.now

-- the first value of each field that is read
pub record Fields : Type 0 where
  pub dimension : Option (List ℕ)
  pub kind : Option (List ℕ)
  pub sizes : Option (List ℕ)
  pub encoding : Option (List ℕ)
  pub endian : Option (List ℕ)
  pub line_skip : Option (List ℕ)
  pub byte_skip : Option (List ℕ)

-- the first values that lines give
abbrev pub fields_in : List Saying → Fields
fields_in says = record {
  dimension = value Dimension says;
  kind = value Kind says;
  sizes = value Sizes says;
  encoding = value Encoding says;
  endian = value Endian says;
  line_skip = value LineSkip says;
  byte_skip = value ByteSkip says;
}

-- they, and the bytes of the samples
abbrev pub fields_and_bytes : List Saying × List ℕ → Fields × List ℕ
fields_and_bytes parts = (fields_in parts.0, parts.1)

-- the values so far, without where they lie in memory
abbrev pub seen_fields : Header → Fields
seen_fields h = record {
  dimension = option_map (λ x. x.now) h.dimension;
  kind = option_map (λ x. x.now) h.kind;
  sizes = option_map (λ x. x.now) h.sizes;
  encoding = option_map (λ x. x.now) h.encoding;
  endian = option_map (λ x. x.now) h.endian;
  line_skip = option_map (λ x. x.now) h.line_skip;
  byte_skip = option_map (λ x. x.now) h.byte_skip;
}

-- the value of a field
abbrev pub get_field : Fields → Field → Option (List ℕ)
get_field h Dimension = h.dimension
get_field h Kind = h.kind
get_field h Sizes = h.sizes
get_field h Encoding = h.encoding
get_field h Endian = h.endian
get_field h LineSkip = h.line_skip
get_field h ByteSkip = h.byte_skip

-- a field with its value
abbrev pub put_field : Fields → Field → List ℕ → Fields
put_field h Dimension v = record h { dimension = Some v }
put_field h Kind v = record h { kind = Some v }
put_field h Sizes v = record h { sizes = Some v }
put_field h Encoding v = record h { encoding = Some v }
put_field h Endian v = record h { endian = Some v }
put_field h LineSkip v = record h { line_skip = Some v }
put_field h ByteSkip v = record h { byte_skip = Some v }

-- before the first line
abbrev pub no_fields : Fields
no_fields = record {
  dimension = None;
  kind = None;
  sizes = None;
  encoding = None;
  endian = None;
  line_skip = None;
  byte_skip = None;
}

-- the values behind line n too, or its fault
abbrev pub after_line : Fields → ℕ → Saying → Result Fields NrrdFault
after_line h n IsBad = Err (BadLine n)
after_line h n IsUnread = Ok h
after_line h n NamesFile = Err (Detached n)
after_line h n (Gives f value) = if is_some (get_field h f) then Err (RepeatedField f) else Ok (put_field h f value)

-- the values behind these lines too, of which the first is line n, or the first fault
abbrev pub after_lines : Fields → ℕ → List Saying → Result Fields NrrdFault
after_lines h n [] = Ok h
after_lines h n (s ∷ says) = after_line h n s >>= (λ more. after_lines more (n + 1) says)

-- three numbers of three words
abbrev pub numbers_of : Option (List ℕ × List ℕ × List ℕ) → Option Grid
numbers_of None = None
numbers_of (Some words) =
    option_and_then (λ nx. option_and_then (λ ny. option_and_then (λ nz.
    Some (record { nx = nx; ny = ny; nz = nz })) (whole_of words.2)) (whole_of words.1)) (whole_of words.0)

-- the volume of a layout in these bytes, and how many bytes stand after it
abbrev pub measured : Layout → List ℕ → Result (Voxels × ℕ) NrrdFault
measured l body = voxels_of l.sizes l.kind (samples_by l.encoding l.kind l.big_endian (point_count l.sizes) body)
