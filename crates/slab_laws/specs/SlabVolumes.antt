-- Slabs of volumes: slices of the samples as a volume of their own, meshed by itself with the padding that they have of
-- the whole.
use Rattle.std.specs.Prelude.{◌≡◌, ℕ, ◌+◌, ◌-◌, ◌*◌, ◌≤◌, ◌==◌, ℤ, List, [], ◌∷◌, length, take, drop, if◌then◌else◌}
use Rattle.std.specs.List.{sum}
use Rattle.iso_defs.specs.Grid.{point_count, IsSolid}
use Rattle.iso_base.specs.Volume.{grown, padded_volume, field, Voxels, unpadded}
use Rattle.slab_laws.specs.Slabs.{slices, slice_size, Slab, IsSlab, AreSlabs}

-- n slices of a volume from one on, as a volume
abbrev pub sliced : Voxels → ℕ → ℕ → Voxels
sliced v from n = record {
  grid = slices v.grid n;
  kind = v.kind;
  samples = take (slice_size v.grid * n) (drop (slice_size v.grid * from) v.samples);
}

-- where a slab's own slices begin in a volume and how many there are, and how many layers of padding, none or one, there
-- are below the first of them and above the last
pub record Stretch : Type 0 where
  pub from : ℕ
  pub count : ℕ
  pub below : ℕ
  pub above : ℕ

-- they lie in the volume
abbrev pub LiesIn : Voxels → Stretch → Type 0
LiesIn v t = t.from + t.count ≤ v.grid.nz

-- and have a layer below only where they begin the volume, and one above only where they end it
pub record HasOwnEnds (v : Voxels) (t : Stretch) : Type 0 where
  pub below : t.below ≤ 1
  pub above : t.above ≤ 1
  pub first : t.below ≡ 1 → t.from ≡ 0
  pub last : t.above ≡ 1 → t.from + t.count ≡ v.grid.nz

-- the slab of these slices at a level, without padding
abbrev pub slab_of : Voxels → ℤ → Stretch → ℕ → Slab
slab_of v level t owned = record {
  grid = slices v.grid t.count;
  field = field (sliced v t.from t.count).samples level;
  height = t.from;
  owned = owned;
}

-- And with padding: its own slices in a layer on all six sides, without the layers that it has not at its ends. Where it
-- has none below, its first slice is one higher in the padded volume than in the volume.
abbrev pub padded_slab_of : Voxels → ℤ → ℤ → Stretch → ℕ → Slab
padded_slab_of v pad level t owned = record {
  grid = slices (grown v.grid) (t.count + (t.below + t.above));
  field = λ p. field (padded_volume (unpadded (sliced v t.from t.count)) pad).samples level
      (p + slice_size (grown v.grid) * (1 - t.below));
  height = t.from + (1 - t.below);
  owned = owned;
}

-- Slices of a volume are a slab of it.
abbrev pub SlicesAreSlab : Type 0
SlicesAreSlab = (v : Voxels) (level : ℤ) (t : Stretch) (owned : ℕ) → length v.samples ≡ point_count v.grid → LiesIn v t
    → IsSlab v.grid (field v.samples level) (slab_of v level t owned)

-- Slices in their padding are a slab of the padded volume.
abbrev pub PaddedSlicesAreSlab : Type 0
PaddedSlicesAreSlab = (v : Voxels) (pad level : ℤ) (t : Stretch) (owned : ℕ) → IsSolid v.grid
    → length v.samples ≡ point_count v.grid → LiesIn v t → HasOwnEnds v t
    → IsSlab (grown v.grid) (field (padded_volume (unpadded v) pad).samples level) (padded_slab_of v pad level t owned)

-- how many layers are below slices of a padded volume from one on
abbrev pub layers_below : ℕ → ℕ
layers_below z = if z == 0 then 1 else 0

-- the stretch of which so many slices of the padded volume are made, from slice z on: it has a layer below where that is
-- the first
abbrev pub stretch_at : ℕ → ℕ → ℕ → Stretch
stretch_at z stored above = record {
  from = z - 1;
  count = stored - (layers_below z + above);
  below = layers_below z;
  above = above;
}

-- the slabs of a padded volume from slice z on, of which all but the last own these numbers of slices: the last has all
-- slices that are left, and a layer above
abbrev pub padded_slabs_of : Voxels → ℤ → ℤ → ℕ → List ℕ → List Slab
padded_slabs_of v pad level z [] =
    padded_slab_of v pad level (stretch_at z (v.grid.nz + 2 - z) 1) (v.grid.nz + 2 - z) ∷ []
padded_slabs_of v pad level z (n ∷ ns) =
    padded_slab_of v pad level (stretch_at z (n + 2) 0) n ∷ padded_slabs_of v pad level (z + n) ns

-- the slabs of a volume without padding from slice z on
abbrev pub volume_slabs_of : Voxels → ℤ → ℕ → List ℕ → List Slab
volume_slabs_of v level z [] =
    slab_of v level (record { from = z; count = v.grid.nz - z; below = 0; above = 0 }) (v.grid.nz - z) ∷ []
volume_slabs_of v level z (n ∷ ns) =
    slab_of v level (record { from = z; count = n + 2; below = 0; above = 0 }) n ∷ volume_slabs_of v level (z + n) ns

-- Slabs of a volume that own these numbers of slices are the slabs of its grid, if they leave two slices for the last.
abbrev pub CutsOfVolume : Type 0
CutsOfVolume = (v : Voxels) (level : ℤ) (owned : List ℕ) → length v.samples ≡ point_count v.grid
    → sum owned + 2 ≤ v.grid.nz → AreSlabs v.grid (field v.samples level) 0 (volume_slabs_of v level 0 owned)

-- So are those of a padded volume the slabs of the padded grid, if they leave two slices of samples for the last.
abbrev pub CutsOfPadded : Type 0
CutsOfPadded = (v : Voxels) (pad level : ℤ) (owned : List ℕ) → IsSolid v.grid → length v.samples ≡ point_count v.grid
    → sum owned + 1 ≤ v.grid.nz
    → AreSlabs (grown v.grid) (field (padded_volume (unpadded v) pad).samples level) 0 (padded_slabs_of v pad level 0 owned)
