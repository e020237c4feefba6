-- Volumes that were read.
use Rattle.std.proofs.Common.{◌≡◌, ℕ, List, Err, sym, ap, ◌∙◌, ℤ}
use Rattle.std.specs.Prelude.{Option, Result}
use Rattle.iso_base.specs.Volume.{Volume}
use Rattle.nrrd_read.specs.Files.{IsRead}
use Rattle.nrrd_read.specs.Nrrd.{nrrd_of, Fails}
use Rattle.refusals.specs.declared.nrrd.NrrdFault.{NrrdFault}
use Rattle.refusals.specs.declared.nrrd.NrrdFault.TheVariants as faults
use Rattle.command_terms.specs.Volumes.{IsNoVolume, of_read, volume_refusal, volume_of, with_pad}
use Rattle.program.specs.declared.answer.VolumeFault.{VolumeFault}
use Rattle.program.specs.declared.answer.VolumeFault.TheVariants.{Nrrd}

-- the volume of what was read
pub read_volume : (pad : Option ℤ) (level : ℤ) (bytes : List ℕ) (v : Volume) (r : Result Volume VolumeFault) → IsRead bytes v → with_pad pad level v ≡ r → volume_of pad level bytes ≡ r
unfolding volume_of
read_volume pad level bytes v r h e = ap (of_read pad level) h.1 ∙ ap (with_pad pad level) (sym h.2) ∙ e

pub not_read : (pad : Option ℤ) (level : ℤ) (bytes : List ℕ) (fault : NrrdFault) → nrrd_of bytes ≡ Err fault → volume_of pad level bytes ≡ Err (Nrrd fault)
unfolding volume_of
not_read pad level bytes fault e = ap (of_read pad level) e

-- a refusal of the reader, as the reason why there is no volume
pub no_volume : (pad : Option ℤ) (level : ℤ) (bytes : List ℕ) (fault : NrrdFault) → Fails fault (nrrd_of bytes) → IsNoVolume pad level bytes (volume_refusal fault)
no_volume pad level bytes faults.NotNrrd h = not_read pad level bytes faults.NotNrrd h
no_volume pad level bytes (faults.HeaderTooLong n) h = not_read pad level bytes (faults.HeaderTooLong n) h
no_volume pad level bytes (faults.BadLine line) h = not_read pad level bytes (faults.BadLine line) h
no_volume pad level bytes (faults.RepeatedField field) h = not_read pad level bytes (faults.RepeatedField field) h
no_volume pad level bytes (faults.MissingField field) h = not_read pad level bytes (faults.MissingField field) h
no_volume pad level bytes (faults.BadValue field) h = not_read pad level bytes (faults.BadValue field) h
no_volume pad level bytes faults.UnsupportedKind h = not_read pad level bytes faults.UnsupportedKind h
no_volume pad level bytes (faults.UnsupportedEncoding word) h = not_read pad level bytes (faults.UnsupportedEncoding word) h
no_volume pad level bytes (faults.Detached line) h = not_read pad level bytes (faults.Detached line) h
no_volume pad level bytes (faults.SkipUnsupported field) h = not_read pad level bytes (faults.SkipUnsupported field) h
no_volume pad level bytes (faults.NotThreeAxes n) h = not_read pad level bytes (faults.NotThreeAxes n) h
no_volume pad level bytes (faults.Size fault) h = not_read pad level bytes (faults.Size fault) h
no_volume pad level bytes faults.NoEndian h = not_read pad level bytes faults.NoEndian h
no_volume pad level bytes (faults.ShortSamples needed present) h = not_read pad level bytes (faults.ShortSamples needed present) h
no_volume pad level bytes faults.Memory h = tt
no_volume pad level bytes (faults.BadSample place) h = not_read pad level bytes (faults.BadSample place) h
