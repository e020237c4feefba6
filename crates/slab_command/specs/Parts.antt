-- What a slab owns of the whole mesh, in numbers and as texts.
use Rattle.std.specs.Prelude.{ℕ, ◌+◌, ◌-◌, ◌==◌, ◌++◌, ℤ, nat_lt, if◌then◌else◌, max, List, [], ◌∷◌, codes, decimal, Option, None, Some, Result, Ok, Err}
use Rattle.iso_defs.specs.Texts.{line}
use Rattle.mesh_lines.specs.declared.style.Origin.{Origin}
use Rattle.mesh_lines.specs.declared.style.Origin.TheVariants as origins
use Rattle.mesh_lines.specs.declared.style.Style.{Style}
use Rattle.mesh_rows.specs.Counts.{centres_among, triangles_among}
use Rattle.mesh_text.specs.Formats.{mesh_format}
use Rattle.mesh_text.specs.declared.format.TwoWayFormat.{TwoWayFormat}
use Rattle.mesh_text.specs.declared.format.TwoWayFormat.TheVariants.{Ply, Obj}
use Rattle.mesh_walk.specs.Numbers.{edges_to}
use Rattle.mesh_walk.specs.Spans.{edge_count, owned_centres_text, owned_edges_text, owned_faces_text, points_to}
use Rattle.mesh_walk.specs.declared.parts.PartCounts.{PartCounts}
use Rattle.mesh_walk.specs.declared.walk.Numbering.{Numbering}
use Rattle.list_mesh.specs.Parts.{Part}
use Rattle.slab_command.specs.Slabs.{part_of}
use Rattle.slab_command.specs.Words.{most}
use Rattle.slab_command.specs.declared.answer.SlabAnswer.{SlabAnswer}
use Rattle.slab_command.specs.declared.answer.SlabAnswer.TheVariants.{Numbers}
use Rattle.slab_command.specs.declared.asked.Slab.{Slab}
use Rattle.slab_command.specs.declared.asked.SlabFiles.{SlabFiles}
use Rattle.slab_command.specs.declared.asked.SlabJob.{SlabJob}
use Rattle.slab_command.specs.declared.files.PartLines.{PartLines}
use Rattle.slab_command.specs.declared.files.PartLines.TheVariants.{Edges, Centres, Triangles}

-- ---- numbers

-- how many vertices on edges, centres and triangles a part has
abbrev pub counts_of : Part → PartCounts
counts_of p = record {
  edges = edges_to p.volume (points_to p.volume p.slices);
  centres = centres_among p.volume 0 (points_to p.volume p.slices);
  faces = triangles_among p.volume 0 (points_to p.volume p.slices);
}

-- the line of these numbers
abbrev pub counts_text : ℕ → PartCounts → List ℕ
counts_text slices c = line (
    codes "slab slices " ++ (decimal slices ++ (codes " edges " ++ (decimal c.edges
    ++ (codes " centres " ++ (decimal c.centres ++ (codes " triangles " ++ decimal c.faces))))))
    )

-- the last of so many numbers from one on; 0 where there are none
abbrev pub last_number : ℕ → ℕ → ℕ
last_number first count = if count == 0 then 0 else first + (count - 1)

-- the largest number of a vertex, where so many vertices lie on edges, of the part and behind it, and there are so many centres
abbrev pub largest_number : Numbering → ℕ → ℕ → ℕ
largest_number numbers edges centres = max (last_number numbers.first_edge edges)
    (last_number numbers.first_centre centres)

-- the largest one that a file may have: OBJ counts from 1
abbrev pub most_number : TwoWayFormat → ℕ
most_number Ply = most
most_number Obj = most - 1

abbrev pub check_numbers : SlabFiles → ℕ → ℕ → Result (Unit {0}) SlabAnswer
check_numbers files edges centres =
    let largest = largest_number files.numbers edges centres in
    if nat_lt (most_number files.format) largest then Err (Numbers largest) else Ok tt

-- ---- texts

-- where coordinates are counted from, so that they are those of the whole
abbrev pub origin_by : Option ℤ → ℕ → Origin
origin_by None from = if from == 0 then origins.Volume else origins.Window (record { x = 0; y = 0; z = from })
origin_by (Some pad) from = if from == 0 then origins.Pad else origins.PaddedSlab from

abbrev pub origin_of : Slab → Origin
origin_of slab = origin_by slab.pad slab.from

abbrev pub style_of : Slab → TwoWayFormat → Style
style_of slab format = record { format = mesh_format format; origin = origin_of slab }

-- these lines of a part
abbrev pub part_text : Part → Style → Numbering → PartLines → List ℕ
part_text p style numbers Edges = owned_edges_text style p.volume p.slices
part_text p style numbers Centres = owned_centres_text style p.volume p.slices
part_text p style numbers Triangles = owned_faces_text style.format numbers p.volume p.slices

-- the name of their file
abbrev pub ending_of : PartLines → List ℕ
ending_of Edges = codes ".edges"
ending_of Centres = codes ".centres"
ending_of Triangles = codes ".triangles"

abbrev pub file_name : List ℕ → PartLines → List ℕ
file_name name lines = name ++ ending_of lines

-- a file of these lines: its name and its text
abbrev pub part_file : Part → Slab → SlabFiles → PartLines → List ℕ × List ℕ
part_file p slab files lines = (
  file_name files.name lines,
  part_text p (style_of slab files.format) files.numbers lines,
)

abbrev pub part_files : Part → Slab → SlabFiles → List (List ℕ × List ℕ)
part_files p slab files =
    part_file p slab files Edges ∷ part_file p slab files Centres ∷ part_file p slab files Triangles ∷ []

-- ---- what is given

-- files, each by its name and its text, and a line
pub record Output : Type 0 where
  pub files : List (List ℕ × List ℕ)
  pub line : List ℕ

abbrev pub with_numbers : Part → Slab → SlabFiles → Result (Unit {0}) SlabAnswer → Result Output SlabAnswer
with_numbers p slab files (Err answer) = Err answer
with_numbers p slab files (Ok fits) = Ok (record {
  files = part_files p slab files;
  line = counts_text p.slices (counts_of p);
})

-- what the part gives: the line of its numbers, and its files where there are to be any
abbrev pub with_files_of : Slab → Option SlabFiles → Part → Result Output SlabAnswer
with_files_of slab None p = Ok (record { files = []; line = counts_text p.slices (counts_of p) })
with_files_of slab (Some files) p =
    with_numbers p slab files (check_numbers files (edge_count p.volume) (counts_of p).centres)

abbrev pub output_of : SlabJob → Part → Result Output SlabAnswer
output_of job p = with_files_of job.slab job.files p

abbrev pub output_by : SlabJob → Result Part SlabAnswer → Result Output SlabAnswer
output_by job (Err answer) = Err answer
output_by job (Ok p) = output_of job p

-- what a slab gives, by the bytes of its volume; or the first reason why it gives nothing
abbrev pub slab_given : SlabJob → List ℕ → Result Output SlabAnswer
slab_given job bytes = output_by job (part_of job.slab bytes)
