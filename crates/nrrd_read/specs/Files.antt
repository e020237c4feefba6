-- Volumes as their files hold them.
use Rattle.std.specs.Prelude.{◌≡◌, ℕ, List, Ok}
use Rattle.iso_base.specs.Volume.{Voxels, Volume, unpadded}
use Rattle.nrrd_read.specs.Nrrd.{nrrd_of}
use Rattle.nrrd_read.specs.declared.volume.FileVolume.{FileVolume}
use Rattle.nrrd_read.specs.declared.volume.FileVolume.TheVariants.{Raw, Read}

-- the volume, wherever its samples lie
abbrev pub file_voxels : FileVolume → Voxels
file_voxels (Raw v) = v
file_voxels (Read v) = v

-- it, and the number of bytes after it
abbrev pub seen_volume : FileVolume × ℕ → Voxels × ℕ
seen_volume read = (file_voxels read.0, read.1)

-- this is the volume of a file's bytes, without a pad
abbrev pub IsRead : List ℕ → Volume → Type 0
IsRead bytes v = (read : Voxels × ℕ) × (nrrd_of bytes ≡ Ok read) × (v ≡ unpadded read.0)
