-- Volumes in print: one head, and the samples as raw bytes in little order, as numbers or as hex digits.
use Rattle.std.specs.Prelude.{ℕ, ◌*◌, Bool, true, false, List, [], ◌++◌, flat_map, map, take, drop, ℤ, decimal, codes, if◌then◌else◌}
use Rattle.iso_defs.specs.Lists.{below}
use Rattle.iso_defs.specs.Grid.{Grid}
use Rattle.iso_base.specs.Volume.{Voxels}
use Rattle.iso_base.specs.declared.kind.SampleKind.{SampleKind}
use Rattle.iso_base.specs.declared.kind.SampleKind.TheVariants.{I8, U8, I16, U16, I32, U32}
pub use Rattle.iso_base.specs.SampleBytes.{samples_text}
use Rattle.nrrd_text.specs.Writing.{hex_line, text_line}
use Rattle.nrrd_read.specs.declared.encoding.Encoding.{Encoding}
use Rattle.nrrd_read.specs.declared.encoding.Encoding.TheVariants.{Raw, Text, Hex}
use Rattle.nrrd_read.specs.Checks.{has_order}

-- the name of a kind
unfoldable pub kind_text : SampleKind → List ℕ
kind_text I8 = codes "int8"
kind_text U8 = codes "uint8"
kind_text I16 = codes "int16"
kind_text U16 = codes "uint16"
kind_text I32 = codes "int32"
kind_text U32 = codes "uint32"

-- the line of the byte order, where there is one
abbrev pub order_text : Bool → List ℕ
order_text ordered = if ordered then codes "\nendian: little" else []

-- the three sizes
unfoldable pub sizes_text : Grid → List ℕ
sizes_text e = decimal e.nx ++ codes " " ++ decimal e.ny ++ codes " " ++ decimal e.nz

-- the name of an encoding
unfoldable pub encoding_text : Encoding → List ℕ
encoding_text Raw = codes "raw"
encoding_text Text = codes "text"
encoding_text Hex = codes "hex"

-- the head of an encoding
unfoldable pub head_in : Encoding → Grid → SampleKind → List ℕ
head_in encoding e kind =
    codes "NRRD0004\ntype: " ++ kind_text kind ++ codes "\ndimension: 3\nsizes: " ++ sizes_text e
    ++ order_text (has_order encoding kind) ++ codes "\nencoding: " ++ encoding_text encoding ++ codes "\n\n"

-- the head of raw samples, and that of samples in print
abbrev pub head_text : Grid → SampleKind → List ℕ
head_text e kind = head_in Raw e kind

abbrev pub coded_by : Bool → Encoding
coded_by hex = if hex then Hex else Text

abbrev pub coded_head_text : Grid → SampleKind → Bool → List ℕ
coded_head_text e kind hex = head_in (coded_by hex) e kind

-- a whole volume, raw
abbrev pub save_text : Voxels → List ℕ
save_text v = head_text v.grid v.kind ++ samples_text v.kind v.samples

-- the samples of a row, and all rows, in order of index
abbrev pub row_of : Voxels → ℕ → List ℤ
row_of v j = take v.grid.nx (drop (j * v.grid.nx) v.samples)

abbrev pub rows_of : Voxels → List (List ℤ)
rows_of v = map (row_of v) (below (v.grid.ny * v.grid.nz))

-- the line of a row, of numbers or of hex digits
abbrev pub coded_line : Bool → SampleKind → List ℤ → List ℕ
coded_line hex kind values = if hex then hex_line kind values else text_line values

-- a whole volume in print, a row in a line
abbrev pub coded_save : Bool → Voxels → List ℕ
coded_save hex v = coded_head_text v.grid v.kind hex ++ flat_map (coded_line hex v.kind) (rows_of v)

-- as lines of numbers, and as lines of hex digits
abbrev pub text_save : Voxels → List ℕ
text_save v = coded_save false v

abbrev pub hex_save : Voxels → List ℕ
hex_save v = coded_save true v
