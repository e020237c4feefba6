-- The slab in an input, in the padding that it has of the whole.
use Rattle.std.specs.Prelude.{ℕ, ◌-◌, ◌==◌, ℤ, nat_lt, if◌then◌else◌, List, Option, None, Some, Result, Ok, Err}
use Rattle.iso_defs.specs.Grid.{Grid}
use Rattle.iso_base.specs.Volume.{Voxels, is_above_pad, sized}
use Rattle.iso_base.specs.declared.sizes.SizeFault.{SizeFault}
use Rattle.flat_mesh.specs.Lattice.{Leveled}
use Rattle.list_mesh.specs.Parts.{Part}
use Rattle.nrrd_read.specs.Nrrd.{nrrd_of}
use Rattle.padded_samples.specs.PaddedSlabs.{SlabInPad, ringed, slab_list}
use Rattle.padded_samples.specs.declared.ends.Ends.{Ends}
use Rattle.program.specs.declared.answer.Answer.TheVariants.{BadVolume}
use Rattle.program.specs.declared.answer.VolumeFault.{VolumeFault}
use Rattle.program.specs.declared.answer.VolumeFault.TheVariants.{Nrrd, Pad, LevelNotAbovePad}
use Rattle.refusals.specs.declared.nrrd.NrrdFault.{NrrdFault}
use Rattle.slab_command.specs.declared.answer.SlabAnswer.{SlabAnswer}
use Rattle.slab_command.specs.declared.answer.SlabAnswer.TheVariants.{Common, Thin}
use Rattle.slab_command.specs.declared.asked.Slab.{Slab}

-- the ends of the whole that a slab has
abbrev pub ends_of : Slab → Ends
ends_of slab = record { below = slab.from == 0; above = slab.is_last }

-- the volume of a slab without padding
abbrev pub bare : Slab → Voxels → Leveled
bare slab v = record { grid = v.grid; samples = v.samples; level = slab.level }

-- and in padding: a ring round each slice, and a layer at each end of the whole that it has
abbrev pub within : Slab → ℤ → Voxels → SlabInPad
within slab pad v = record { grid = v.grid; samples = v.samples; pad = pad; ends = ends_of slab }

abbrev pub padded : Slab → ℤ → Voxels → Leveled
padded slab pad v = record {
  grid = ringed (ends_of slab) v.grid;
  samples = slab_list (within slab pad v);
  level = slab.level;
}

-- how many of its slices a slab owns: the last one all of them, the others all but two
abbrev pub check_slices : Slab → ℕ → Result ℕ SlabAnswer
check_slices slab slices = if slab.is_last then Ok slices
    else if nat_lt slices 3 then Err (Thin slices) else Ok (slices - 2)

-- the part of a volume that these are
abbrev pub with_slices : Leveled → Result ℕ SlabAnswer → Result Part SlabAnswer
with_slices v (Err answer) = Err answer
with_slices v (Ok slices) = Ok (record { volume = v; slices = slices })

abbrev pub owned_part : Slab → Leveled → Result Part SlabAnswer
owned_part slab v = with_slices v (check_slices slab v.grid.nz)

-- a refusal that other programs have too
abbrev pub refused : VolumeFault → SlabAnswer
refused fault = Common (BadVolume fault)

-- the part in padding, where the grid with it is accepted; the level is to be above the pad
abbrev pub raised : Slab → ℤ → Voxels → Result Grid SizeFault → Result Part SlabAnswer
raised slab pad v (Err fault) = Err (refused (Pad fault))
raised slab pad v (Ok grid) = if is_above_pad slab.level pad then owned_part slab (padded slab pad v)
    else Err (refused (LevelNotAbovePad slab.level pad))

abbrev pub with_pad : Slab → Option ℤ → Voxels → Result Part SlabAnswer
with_pad slab None v = owned_part slab (bare slab v)
with_pad slab (Some pad) v = raised slab pad v (sized (ringed (ends_of slab) v.grid))

abbrev pub of_read : Slab → Result (Voxels × ℕ) NrrdFault → Result Part SlabAnswer
of_read slab (Err fault) = Err (refused (Nrrd fault))
of_read slab (Ok read) = with_pad slab slab.pad read.0

-- the part of its volume that the slab in a file's bytes owns; or the first reason why there is none
unfoldable pub part_of : Slab → List ℕ → Result Part SlabAnswer
part_of slab bytes = of_read slab (nrrd_of bytes)
