-- What the program says of its end: a line, or nothing where it is done.
use Rattle.std.specs.Prelude.{ℕ, List, [], ◌++◌, codes}
use Rattle.iso_defs.specs.Texts.{line}
use Rattle.iso_base.specs.declared.sizes.SizeFault.{SizeFault}
use Rattle.iso_base.specs.declared.sizes.SizeFault.TheVariants as sizes
use Rattle.refusals.specs.declared.nrrd.Field.{Field}
use Rattle.refusals.specs.declared.nrrd.Field.TheVariants as fields
use Rattle.refusals.specs.declared.nrrd.EncodingWord.{EncodingWord}
use Rattle.refusals.specs.declared.nrrd.EncodingWord.TheVariants as encodings
use Rattle.refusals.specs.declared.nrrd.NrrdFault.{NrrdFault}
use Rattle.refusals.specs.declared.nrrd.NrrdFault.TheVariants as nrrds
use Rattle.refusals.specs.declared.mesh.MeshFault.{MeshFault}
use Rattle.refusals.specs.declared.mesh.MeshFault.TheVariants as meshes
use Rattle.iso_defs.specs.Texts.{counted, counted_twice, level_and_pad}
use Rattle.program.specs.declared.answer.VolumeFault.{VolumeFault}
use Rattle.program.specs.declared.answer.VolumeFault.TheVariants as volumes
use Rattle.program.specs.declared.answer.Answer.{Answer}
use Rattle.program.specs.declared.answer.Answer.TheVariants as answers

-- ---- names

-- the names of fields of a volume's header
abbrev pub field_name : Field → List ℕ
field_name fields.Dimension = codes "dimension"
field_name fields.Kind = codes "type"
field_name fields.Sizes = codes "sizes"
field_name fields.Encoding = codes "encoding"
field_name fields.Endian = codes "endian"
field_name fields.LineSkip = codes "line skip"
field_name fields.ByteSkip = codes "byte skip"

-- the words of encodings
abbrev pub encoding_name : EncodingWord → List ℕ
encoding_name encodings.Gzip = codes "gzip"
encoding_name encodings.Bzip2 = codes "bzip2"
encoding_name encodings.Unknown = codes "unknown"

-- why sizes are refused: an axis by its number, and how many samples
abbrev pub size_fault_text : SizeFault → List ℕ
size_fault_text (sizes.TooThin axis n) = counted_twice (codes "size thin ") axis n
size_fault_text (sizes.AxisTooLong axis n) = counted_twice (codes "size axis ") axis n
size_fault_text (sizes.TooMany n) = counted (codes "size product ") n

-- ---- faults, each by its number

unfoldable pub nrrd_fault_text : NrrdFault → List ℕ
nrrd_fault_text nrrds.NotNrrd = codes "volume 1 not nrrd"
nrrd_fault_text (nrrds.HeaderTooLong bytes) = counted (codes "volume 2 header too long ") bytes
nrrd_fault_text (nrrds.BadLine line) = counted (codes "volume 3 bad line ") line
nrrd_fault_text (nrrds.RepeatedField field) = codes "volume 4 repeated field " ++ field_name field
nrrd_fault_text (nrrds.MissingField field) = codes "volume 5 missing field " ++ field_name field
nrrd_fault_text (nrrds.BadValue field) = codes "volume 6 bad value " ++ field_name field
nrrd_fault_text nrrds.UnsupportedKind = codes "volume 7 unsupported type"
nrrd_fault_text (nrrds.UnsupportedEncoding word) = codes "volume 8 unsupported encoding " ++ encoding_name word
nrrd_fault_text (nrrds.Detached line) = counted (codes "volume 9 detached ") line
nrrd_fault_text (nrrds.SkipUnsupported field) = codes "volume 10 skip unsupported " ++ field_name field
nrrd_fault_text (nrrds.NotThreeAxes n) = counted (codes "volume 11 not three axes ") n
nrrd_fault_text (nrrds.Size fault) = codes "volume 12 " ++ size_fault_text fault
nrrd_fault_text nrrds.NoEndian = codes "volume 13 no endian"
nrrd_fault_text (nrrds.ShortSamples needed present) = counted_twice (codes "volume 14 short samples ") needed present
nrrd_fault_text nrrds.Memory = codes "memory"
nrrd_fault_text (nrrds.BadSample place) = counted (codes "volume 19 bad sample ") place

unfoldable pub volume_fault_text : VolumeFault → List ℕ
volume_fault_text (volumes.Nrrd fault) = nrrd_fault_text fault
volume_fault_text (volumes.Pad fault) = codes "volume 16 pad " ++ size_fault_text fault
volume_fault_text (volumes.LevelNotAbovePad level pad) = codes "volume 17 level not above pad " ++ level_and_pad level pad

unfoldable pub mesh_fault_text : MeshFault → List ℕ
mesh_fault_text meshes.NotMesh = codes "mesh 1 not mesh"
mesh_fault_text meshes.BinaryPly = codes "mesh 2 binary ply"
mesh_fault_text (meshes.BadHeader line) = counted (codes "mesh 3 bad header ") line
mesh_fault_text (meshes.BadNumber line) = counted (codes "mesh 4 bad number ") line
mesh_fault_text (meshes.NotTriangle line) = counted (codes "mesh 5 not triangle ") line
mesh_fault_text (meshes.IndexOutside line) = counted (codes "mesh 6 index outside ") line
mesh_fault_text (meshes.ShortMesh needed present) = counted_twice (codes "mesh 7 short mesh ") needed present
mesh_fault_text (meshes.TooMany n) = counted (codes "mesh 8 too many ") n
mesh_fault_text meshes.Memory = codes "memory"

-- ---- the note of an answer

-- the line of a note of the program of this name
abbrev pub note_line : List ℕ → List ℕ → List ℕ
note_line name text = line (name ++ (codes ": " ++ text))

unfoldable pub note_by : List ℕ → Answer → List ℕ
note_by name answers.Done = []
note_by name answers.MeshRefused = []
note_by name answers.BadWords = note_line name (codes "bad words")
note_by name (answers.BadVolume fault) = note_line name (volume_fault_text fault)
note_by name answers.InputFault = note_line name (codes "input fault")
note_by name answers.InputTooLong = note_line name (codes "input too long")
note_by name answers.OutputFault = note_line name (codes "output fault")
note_by name answers.Memory = note_line name (codes "memory")
note_by name answers.ShelfFault = note_line name (codes "shelf fault")
note_by name (answers.BadMesh fault) = note_line name (mesh_fault_text fault)

-- that of the workbench
abbrev pub note_of : Answer → List ℕ
note_of answer = note_by (codes "isobench") answer
