-- What the values of the fields must be, and the refusals where they are not.
use Rattle.std.specs.Prelude.{Bool, false, nat_lt, ℕ, zero, true, ◌==◌, ◌||◌, List, [], ◌∷◌, length, map, ℤ, pos, Option, Some, None, Result, Ok, Err, ok_or, option_map, if◌then◌else◌, codes, ⊤}
use Rattle.std.specs.List.{filter, list_any, slice_split}
use Rattle.std.specs.Option.{option_map_or}
use Rattle.std.specs.Result.{result_map_both}
use Rattle.iso_base.specs.Volume.{width_of, sized}
use Rattle.iso_base.specs.declared.kind.SampleKind.{SampleKind}
use Rattle.nrrd_read.specs.declared.encoding.Encoding.{Encoding}
use Rattle.nrrd_read.specs.declared.encoding.Encoding.TheVariants.{Raw, Text, Hex}
use Rattle.iso_defs.specs.Grid.{Grid}
use Rattle.iso_base.specs.declared.kind.SampleKind.TheVariants.{I8, U8, I16, U16, I32, U32}
use Rattle.refusals.specs.declared.nrrd.Field.{Field}
use Rattle.refusals.specs.declared.nrrd.Field.TheVariants.{Dimension, Kind, Sizes, Endian, LineSkip, ByteSkip}
use Rattle.refusals.specs.declared.nrrd.EncodingWord.TheVariants.{Gzip, Bzip2, Unknown}
use Rattle.nrrd_read.specs.declared.layout.Layout.{Layout}
use Rattle.refusals.specs.declared.nrrd.NrrdFault.{NrrdFault}
use Rattle.refusals.specs.declared.nrrd.NrrdFault.TheVariants.{MissingField, BadValue, NotThreeAxes, UnsupportedKind, UnsupportedEncoding, SkipUnsupported, Size, NoEndian}
use Rattle.text_lines.specs.Words.{is_blank, is_word}
use Rattle.text_lines.specs.Numbers.{integer_of, whole_of}
use Rattle.text_lines.specs.Lines.{◌>>=◌}
use Rattle.refusals.specs.declared.nrrd.Field.TheVariants as fields

-- whether the bytes of a sample have an order
abbrev pub has_order : Encoding → SampleKind → Bool
has_order Text kind = false
has_order _ kind = nat_lt 1 (width_of kind)

-- there must be three axes
abbrev pub three_axes : Option ℕ → Result ⊤ NrrdFault
three_axes n = option_map_or (λ n. if n == 3 then Ok tt else Err (NotThreeAxes n)) n (Err (BadValue Dimension))

-- whether a text is one of these words
unfoldable pub is_one_of : List ℕ → List (List ℕ) → Bool
is_one_of text words = list_any (is_word text) words

-- the kind of a type's name, in any of its spellings
unfoldable pub kind_named : List ℕ → Result SampleKind NrrdFault
kind_named w =
    if is_one_of w (codes "signed char" ∷ codes "int8" ∷ codes "int8_t" ∷ []) then Ok I8 else
    if is_one_of w (codes "uchar" ∷ codes "unsigned char" ∷ codes "uint8" ∷ codes "uint8_t" ∷ []) then Ok U8 else
    if is_one_of w (codes "short" ∷ codes "short int" ∷ codes "signed short" ∷ codes "signed short int"
    ∷ codes "int16" ∷ codes "int16_t" ∷ []) then Ok I16 else
    if is_one_of w (codes "ushort" ∷ codes "unsigned short" ∷ codes "unsigned short int"
    ∷ codes "uint16" ∷ codes "uint16_t" ∷ []) then Ok U16 else
    if is_one_of w (codes "int" ∷ codes "signed int" ∷ codes "int32" ∷ codes "int32_t" ∷ []) then Ok I32 else
    if is_one_of w (codes "uint" ∷ codes "unsigned int" ∷ codes "uint32" ∷ codes "uint32_t" ∷ []) then Ok U32 else
    Err UnsupportedKind

-- the encoding of a name, or which of those that are not read it is
unfoldable pub encoding_named : List ℕ → Result Encoding NrrdFault
encoding_named w =
    if is_word w (codes "raw") then Ok Raw else
    if is_word w (codes "txt") || is_word w (codes "text") || is_word w (codes "ascii") then Ok Text else
    if is_word w (codes "hex") then Ok Hex else
    if is_word w (codes "gz") || is_word w (codes "gzip") then Err (UnsupportedEncoding Gzip) else
    if is_word w (codes "bz2") || is_word w (codes "bzip2") then Err (UnsupportedEncoding Bzip2) else
    Err (UnsupportedEncoding Unknown)

-- a skip that is there must be 0
abbrev pub no_skip : Field → Option (Option ℤ) → Result ⊤ NrrdFault
no_skip f None = Ok tt
no_skip f (Some None) = Err (BadValue f)
no_skip f (Some (Some (pos zero))) = Ok tt
no_skip f (Some (Some z)) = Err (SkipUnsupported f)

-- the words of a text: its longest parts without blanks
abbrev pub words_by_blanks : List ℕ → List (List ℕ)
words_by_blanks text = filter (λ word. nat_lt 0 (length word)) (slice_split is_blank text)

-- three numbers, where there are just three words and each is one
abbrev pub three_numbers : List (Option ℕ) → Option Grid
three_numbers (Some nx ∷ Some ny ∷ Some nz ∷ []) = Some (record { nx = nx; ny = ny; nz = nz })
three_numbers _ = None

-- the value of sizes, fastest axis first
unfoldable pub grid_of : List ℕ → Result Grid NrrdFault
grid_of text = do
  grid ← ok_or (three_numbers (map whole_of (words_by_blanks text))) (BadValue Sizes)
  result_map_both (λ g. g) Size (sized grid)

-- whether the high bytes come first, which is asked of samples that have an order alone
unfoldable pub big_endian_of : Bool → Option (List ℕ) → Result Bool NrrdFault
big_endian_of false value = Ok false
big_endian_of true None = Err NoEndian
big_endian_of true (Some w) =
    if is_word w (codes "little") then Ok false else if is_word w (codes "big") then Ok true else Err (BadValue Endian)

-- the layout of the samples by the values of the fields, or the first refusal
unfoldable pub layout_of : (Field → Option (List ℕ)) → Result Layout NrrdFault
layout_of value = do
  dimension ← ok_or (value Dimension) (MissingField Dimension)
  kind ← ok_or (value Kind) (MissingField Kind)
  sizes ← ok_or (value Sizes) (MissingField Sizes)
  encoding ← ok_or (value fields.Encoding) (MissingField fields.Encoding)
  axes ← three_axes (whole_of dimension)
  kind ← kind_named kind
  encoding ← encoding_named encoding
  lines ← no_skip LineSkip (option_map integer_of (value LineSkip))
  bytes ← no_skip ByteSkip (option_map integer_of (value ByteSkip))
  grid ← grid_of sizes
  big_endian ← big_endian_of (has_order encoding kind) (value Endian)
  Ok (record { sizes = grid; kind = kind; encoding = encoding; big_endian = big_endian })
