-- Volumes whose samples lie in bytes.
use Rattle.std.specs.Prelude.{ℕ, ◌*◌, ◌<◌, ◌≤◌, ◌^◌, Bool, List, length}
use Rattle.iso_defs.specs.Grid.{Grid, point_count}
use Rattle.iso_base.specs.Volume.{width_of, IsVoxels, Voxels}
use Rattle.iso_base.specs.declared.kind.SampleKind.{SampleKind}
use Rattle.iso_base.specs.SampleBytes.{samples_in}

-- the volume whose samples the bytes begin with
abbrev pub voxels_in : Grid → SampleKind → Bool → List ℕ → Voxels
voxels_in e kind big_endian bytes = record { grid = e; kind = kind; samples = samples_in kind big_endian bytes (point_count e) }

-- there is a sample for each point
pub record IsRaw (e : Grid) (kind : SampleKind) (big_endian : Bool) (bytes : List ℕ) : Type 0 where
  pub room : width_of kind * point_count e ≤ length bytes
  pub voxels : IsVoxels (voxels_in e kind big_endian bytes)

-- bytes begin with so many samples of a width, whose indices have 32 bits
pub record BeginWith (width count : ℕ) (bytes : List ℕ) : Type 0 where
  pub room : width * count ≤ length bytes
  pub few : count < 2 ^ 32
