-- A volume that is written slab by slab, and the text that the files of its slabs make together.
use Rattle.std.specs.Prelude.{◌≡◌, ℕ, ◌+◌, ◌-◌, ◌<◌, ◌≤◌, ℤ, Bool, true, false, List, [], ◌∷◌, ◌++◌, length, Option, None, Some, Ok}
use Rattle.std.specs.List.{flat_map, sum_by}
use Rattle.iso_defs.specs.Grid.{Grid, IsSolid, point_count}
use Rattle.iso_defs.specs.Scratch.{triangles, vertices}
use Rattle.iso_defs.specs.Texts.{obj_text, ply_text}
use Rattle.iso_base.specs.Volume.{Voxels, field, grown, padded_volume, unpadded}
use Rattle.list_mesh.specs.Parts.{Part}
use Rattle.mesh_lines.specs.Lines.{head_of}
use Rattle.mesh_text.specs.declared.format.TwoWayFormat.{TwoWayFormat}
use Rattle.mesh_text.specs.declared.format.TwoWayFormat.TheVariants.{Obj, Ply}
use Rattle.mesh_walk.specs.declared.parts.PartCounts.{PartCounts}
use Rattle.mesh_walk.specs.declared.walk.Numbering.{Numbering}
use Rattle.nrrd_read.specs.Nrrd.{nrrd_of}
use Rattle.slab_laws.specs.SlabVolumes.{sliced}
use Rattle.mesh_text.specs.Formats.{mesh_format}
use Rattle.slab_command.specs.Parts.{Output, counts_of, counts_text, file_name, part_text, slab_given, style_of}
use Rattle.slab_command.specs.Slabs.{part_of}
use Rattle.slab_command.specs.declared.asked.Slab.{Slab}
use Rattle.slab_command.specs.declared.asked.SlabFiles.{SlabFiles}
use Rattle.slab_command.specs.declared.files.PartLines.{PartLines}
use Rattle.slab_command.specs.declared.files.PartLines.TheVariants.{Centres, Edges, Triangles}

-- ---- the whole

-- a volume at a level, with a pad round it or without, and the format of its mesh
pub record Whole : Type 0 where
  pub volume : Voxels
  pub level : ℤ
  pub pad : Option ℤ
  pub format : TwoWayFormat

-- the text of the mesh of a field in a format
abbrev pub mesh_text : TwoWayFormat → Bool → Grid → (ℕ → ℤ) → List ℕ
mesh_text Ply padded g s = ply_text padded (vertices g s) (triangles g s)
mesh_text Obj padded g s = obj_text padded (vertices g s) (triangles g s)

-- the text of its mesh, with that pad
abbrev pub text_in : Whole → Option ℤ → List ℕ
text_in w None = mesh_text w.format false w.volume.grid (field w.volume.samples w.level)
text_in w (Some pad) =
    mesh_text w.format true (grown w.volume.grid) (field (padded_volume (unpadded w.volume) pad).samples w.level)

abbrev pub whole_text : Whole → List ℕ
whole_text w = text_in w w.pad

-- ---- its slabs

-- a slab that was written: what it was asked for, the numbers that it was given, the bytes of its volume, and its part of the mesh
pub record WrittenSlab : Type 0 where
  pub slab : Slab
  pub numbers : Numbering
  pub bytes : List ℕ
  pub part : Part

-- It was asked for as the n slices of the whole from slice z on, with these numbers, and its bytes are a volume of these slices.
pub record IsSlabOf (w : Whole) (z n : ℕ) (is_last : Bool) (numbers : Numbering) (b : WrittenSlab) : Type 0 where
  pub fits : z + n ≤ w.volume.grid.nz
  pub slab_is : b.slab ≡ record { level = w.level; pad = w.pad; from = z; is_last = is_last }
  pub numbers_are : b.numbers ≡ numbers
  pub surplus : ℕ
  pub volume_is : nrrd_of b.bytes ≡ Ok (sliced w.volume z n, surplus)
  pub part_is : part_of b.slab b.bytes ≡ Ok b.part

-- the numbers behind those of a slab
abbrev pub behind : Numbering → PartCounts → Numbering
behind numbers counts = record {
  first_edge = numbers.first_edge + counts.edges;
  first_centre = numbers.first_centre + counts.centres;
}

-- Slabs from slice z on, the lowest first: each one shares its two uppermost slices with the next one, whose numbers are those
-- behind it; the last one has all slices that are left.
abbrev pub AreSlabsFrom : Whole → ℕ → Numbering → List WrittenSlab → Type 0
AreSlabsFrom w z numbers [] = ⊥
AreSlabsFrom w z numbers (b ∷ []) = IsSlabOf w z (w.volume.grid.nz - z) true numbers b
AreSlabsFrom w z numbers (b ∷ c ∷ bs) = (z < c.slab.from) × IsSlabOf w z (c.slab.from + 2 - z) false numbers b
    × AreSlabsFrom w c.slab.from (behind numbers (counts_of b.part)) (c ∷ bs)

-- how many vertices on edges, centres and triangles they have
abbrev pub edges_in : List WrittenSlab → ℕ
edges_in bs = sum_by (λ b. (counts_of b.part).edges) bs

abbrev pub centres_in : List WrittenSlab → ℕ
centres_in bs = sum_by (λ b. (counts_of b.part).centres) bs

abbrev pub triangles_in : List WrittenSlab → ℕ
triangles_in bs = sum_by (λ b. (counts_of b.part).faces) bs

-- the slabs of the whole: vertices on edges are numbered from 0 on, and all centres behind all of them
abbrev pub AreSlabsOf : Whole → List WrittenSlab → Type 0
AreSlabsOf w bs = AreSlabsFrom w 0 (record { first_edge = 0; first_centre = edges_in bs }) bs

-- ---- their files, one behind the other

-- these lines of a slab, as they stand in its file
abbrev pub file_text : TwoWayFormat → PartLines → WrittenSlab → List ℕ
file_text format lines b = part_text b.part (style_of b.slab format) b.numbers lines

-- What the program gives of a slab, where it is asked for its files with these numbers: each file, by its name and its text, and
-- the line of the slab's counts.
abbrev pub GivesFiles : Type 0
GivesFiles = (b : WrittenSlab) (files : SlabFiles) (output : Output) → part_of b.slab b.bytes ≡ Ok b.part
    → files.numbers ≡ b.numbers → slab_given (record { slab = b.slab; files = Some files }) b.bytes ≡ Ok output
    → output ≡ record {
      files =
          (file_name files.name Edges, file_text files.format Edges b)
          ∷ (file_name files.name Centres, file_text files.format Centres b)
          ∷ (file_name files.name Triangles, file_text files.format Triangles b) ∷ [];
      line = counts_text b.part.slices (counts_of b.part);
    }

-- the head of so many vertices and triangles, which OBJ has not; then the vertices on edges of all slabs, then all centres, and
-- then all triangles
abbrev pub joined_text : TwoWayFormat → List WrittenSlab → List ℕ
joined_text format bs =
    head_of (mesh_format format) (edges_in bs + centres_in bs) (triangles_in bs)
    ++ (flat_map (file_text format Edges) bs
    ++ (flat_map (file_text format Centres) bs ++ flat_map (file_text format Triangles) bs))

-- The files of the slabs of a volume, one behind the other, are the text of the mesh of the whole.
abbrev pub JoinedIsWhole : Type 0
JoinedIsWhole = (w : Whole) (bs : List WrittenSlab) → IsSolid w.volume.grid
    → length w.volume.samples ≡ point_count w.volume.grid → AreSlabsOf w bs
    → joined_text w.format bs ≡ whole_text w
