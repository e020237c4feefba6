-- The volume that a command works on.
use Rattle.std.specs.Prelude.{◌≡◌, ℕ, ◌<◌, ◌≤◌, List, length, Option, Some, None, Result, Ok, Err, IfSome, ℤ, if◌then◌else◌}
use Rattle.std.specs.Io.KnownBytes.{IsAtEnd}
use Rattle.iso_defs.specs.Grid.{Grid}
use Rattle.iso_base.specs.Volume.{Voxels, Volume, unpadded, is_above_pad, sized, grown, padded_volume}
use Rattle.iso_base.specs.declared.sizes.SizeFault.{SizeFault}
use Rattle.byte_streams.specs.Causes.{Rose}
use Rattle.byte_streams.specs.Seen.{Feed}
use Rattle.nrrd_read.specs.Nrrd.{nrrd_of}
use Rattle.refusals.specs.declared.nrrd.NrrdFault.{NrrdFault}
use Rattle.refusals.specs.declared.nrrd.NrrdFault.TheVariants as faults
use Rattle.refusals.specs.declared.pad.PadFault.{PadFault}
use Rattle.refusals.specs.declared.pad.PadFault.TheVariants as pads
use Rattle.program.specs.declared.answer.VolumeFault.{VolumeFault}
use Rattle.program.specs.declared.answer.VolumeFault.TheVariants.{Nrrd, Pad, LevelNotAbovePad}
use Rattle.program.specs.declared.answer.Answer.{Answer}
use Rattle.program.specs.declared.answer.Answer.TheVariants as answers
use Rattle.command_terms.specs.declared.reasons.NoVolume.{NoVolume}
use Rattle.command_terms.specs.declared.reasons.NoVolume.TheVariants as reasons

-- the most bytes of a volume file
abbrev pub volume_limit : ℕ
volume_limit = 640065536

-- the volume in its pad, where the grown grid is accepted; the level is to be above the pad
abbrev pub raised : ℤ → ℤ → Volume → Result Grid SizeFault → Result Volume VolumeFault
raised pad level v (Err fault) = Err (Pad fault)
raised pad level v (Ok grid) = if is_above_pad level pad then Ok (padded_volume v pad)
    else Err (LevelNotAbovePad level pad)

abbrev pub with_pad : Option ℤ → ℤ → Volume → Result Volume VolumeFault
with_pad None level v = Ok v
with_pad (Some pad) level v = raised pad level v (sized (grown v.grid))

abbrev pub of_read : Option ℤ → ℤ → Result (Voxels × ℕ) NrrdFault → Result Volume VolumeFault
of_read pad level (Err fault) = Err (Nrrd fault)
of_read pad level (Ok read) = with_pad pad level (unpadded read.0)

-- the volume of a file's bytes, in its pad; or the first reason why there is none
unfoldable pub volume_of : Option ℤ → ℤ → List ℕ → Result Volume VolumeFault
volume_of pad level bytes = of_read pad level (nrrd_of bytes)

-- the text of a volume, where there is one
abbrev pub text_by : (Volume → List ℕ) → Result Volume VolumeFault → Result (List ℕ) VolumeFault
text_by text (Ok v) = Ok (text v)
text_by text (Err fault) = Err fault

-- a refusal of the reader, and of the pad, as the reason why there is no volume
abbrev pub volume_refusal : NrrdFault → NoVolume
volume_refusal faults.Memory = reasons.Memory
volume_refusal fault = reasons.Refused (Nrrd fault)

abbrev pub pad_refusal : PadFault → NoVolume
pad_refusal (pads.Size fault) = reasons.Refused (Pad fault)
pad_refusal pads.Memory = reasons.Memory

-- what is answered for that reason
abbrev pub volume_answer : NoVolume → Answer
volume_answer (reasons.Refused fault) = answers.BadVolume fault
volume_answer reasons.Memory = answers.Memory

-- why the bytes are no volume; want of memory says nothing
abbrev pub IsNoVolume : Option ℤ → ℤ → List ℕ → NoVolume → Type 0
IsNoVolume pad level bytes (reasons.Refused fault) = volume_of pad level bytes ≡ Err fault
IsNoVolume pad level bytes reasons.Memory = Unit {0}

-- why there is no volume in the input
abbrev pub HoldsNone : Option ℤ → ℤ → Feed → Feed → Answer → Type 0
HoldsNone pad level old new answers.InputFault = Rose old.faults new.faults
HoldsNone pad level old new answers.InputTooLong = IfSome old.left (λ bytes. volume_limit < length bytes)
HoldsNone pad level old new (answers.BadVolume fault) =
    IsAtEnd new.left × IfSome old.left (λ bytes. (length bytes ≤ volume_limit)
    × (volume_of pad level bytes ≡ Err fault))
HoldsNone pad level old new answers.Memory = Unit {0}
HoldsNone pad level old new answer = ⊥
