-- The volume that the bytes of a file give, or the first refusal.
use Rattle.text_samples.specs.declared.fault.SampleFault.{SampleFault}
use Rattle.text_samples.specs.declared.fault.SampleFault.TheVariants.{Bad, Short}
use Rattle.refusals.specs.declared.nrrd.NrrdFault.{NrrdFault}
use Rattle.refusals.specs.declared.nrrd.NrrdFault.TheVariants.{BadSample, ShortSamples, Memory, NotNrrd, HeaderTooLong}
use Rattle.std.specs.Prelude.{ℕ, ◌-◌, ◌*◌, Bool, true, false, not, nat_lt, ℤ, List, [], ◌∷◌, length, map, bytes_eq, Result, Ok, Err, if◌then◌else◌, codes}
use Rattle.std.specs.List.{list_any}
use Rattle.std.specs.Result.{result_map_both}
use Rattle.iso_defs.specs.Grid.{Grid, point_count}
use Rattle.iso_base.specs.Volume.{width_of, Voxels}
use Rattle.iso_base.specs.declared.kind.SampleKind.{SampleKind}
use Rattle.text_lines.specs.Lines.{Line, lines_of, ◌>>=◌, unless_fault, AnswersBut, FailsBut}
use Rattle.nrrd_read.specs.Fields.{Saying, header_texts, sample_bytes, meaning_of, first_fault, value}
use Rattle.nrrd_read.specs.Checks.{layout_of}
use Rattle.nrrd_read.specs.declared.encoding.Encoding.{Encoding}
use Rattle.nrrd_read.specs.declared.encoding.Encoding.TheVariants.{Raw, Text, Hex}
use Rattle.iso_base.specs.SampleBytes.{samples_in}
use Rattle.text_samples.specs.Text.{text_samples}
use Rattle.text_samples.specs.Hex.{hex_samples}
use Rattle.text_samples.specs.declared.fault.SampleFault.TheVariants as samples

-- the fault of the volume
abbrev pub fault_of : SampleFault → NrrdFault
fault_of (Bad place) = BadSample place
fault_of (Short needed present) = ShortSamples needed present
fault_of samples.Memory = Memory

-- the first line, of any of the five versions
unfoldable pub is_first : List ℕ → Bool
is_first text = list_any (bytes_eq text)
    (codes "NRRD0001" ∷ codes "NRRD0002" ∷ codes "NRRD0003" ∷ codes "NRRD0004" ∷ codes "NRRD0005" ∷ [])

-- what the lines of a header of this many bytes say, and the bytes behind it
abbrev pub header_of : ℕ → List Saying → List ℕ → Result (List Saying × List ℕ) NrrdFault
header_of bytes says samples =
    if nat_lt 65536 bytes then Err (HeaderTooLong bytes) else unless_fault (first_fault says) (Ok (says, samples))

-- what the lines behind the first say and the bytes of the samples, where all lines have this many bytes
abbrev pub by_lines : ℕ → List Line → Result (List Saying × List ℕ) NrrdFault
by_lines bytes [] = Err NotNrrd
by_lines bytes (first ∷ lines) =
    if not (is_first first.text) then Err NotNrrd else
    header_of (bytes - length (sample_bytes lines)) (map meaning_of (header_texts lines)) (sample_bytes lines)

-- what the lines of a file say, and the bytes of the samples
unfoldable pub split_of : List ℕ → Result (List Saying × List ℕ) NrrdFault
split_of bytes = by_lines (length bytes) (lines_of bytes)

-- raw samples, so many, and how many bytes stand after them
abbrev pub raw_samples : SampleKind → Bool → ℕ → List ℕ → Result (List ℤ × ℕ) SampleFault
raw_samples kind big_endian count body =
    if nat_lt (length body) (width_of kind * count) then Err (Short (width_of kind * count) (length body)) else
    Ok (samples_in kind big_endian body count, length body - width_of kind * count)

-- samples in any encoding
abbrev pub samples_by : Encoding → SampleKind → Bool → ℕ → List ℕ → Result (List ℤ × ℕ) SampleFault
samples_by Raw kind big_endian count body = raw_samples kind big_endian count body
samples_by Text kind big_endian count body = text_samples kind count body
samples_by Hex kind big_endian count body = hex_samples kind big_endian count body

-- the volume of these samples
abbrev pub voxels_of : Grid → SampleKind → Result (List ℤ × ℕ) SampleFault → Result (Voxels × ℕ) NrrdFault
voxels_of e kind read = result_map_both (λ r. (record { grid = e; kind = kind; samples = r.0 }, r.1)) fault_of read

-- the volume in a file, and how many bytes stand after it, or the first refusal
unfoldable pub nrrd_of : List ℕ → Result (Voxels × ℕ) NrrdFault
nrrd_of bytes = do
  parts ← split_of bytes
  layout ← layout_of (λ f. value f parts.0)
  voxels_of layout.sizes layout.kind
      (samples_by layout.encoding layout.kind layout.big_endian (point_count layout.sizes) parts.1)

-- whether memory was wanting
abbrev pub is_memory : NrrdFault → Bool
is_memory Memory = true
is_memory _ = false

-- a refusal is the one that is read; want of memory says nothing
abbrev pub Fails : {A : Type 0} → NrrdFault → Result A NrrdFault → Type 0
Fails fault read = FailsBut is_memory fault read

-- the answer is the one that is read, but that memory may be wanting
abbrev pub Answers : {A : Type 0} → Result A NrrdFault → Result A NrrdFault → Type 0
Answers result read = AnswersBut is_memory result read
