-- Slabs of a padded volume: slices in a ring of padding, with a layer at an end only where there is one.
use Rattle.std.specs.Prelude.{◌≡◌, ℕ, ◌+◌, ◌-◌, ◌*◌, ◌<◌, ◌==◌, ◌&&◌, ◌||◌, ℤ, Bool, true, List, length, map, if◌then◌else◌}
use Rattle.iso_defs.specs.Lists.{below}
use Rattle.iso_defs.specs.Grid.{Grid, index, point_count}
use Rattle.iso_base.specs.Volume.{IsSample, IsGrid, sample}
use Rattle.padded_samples.specs.declared.ends.Ends.{Ends}
use Rattle.padded_samples.specs.Pads.{InPad, padded_at}

-- a grid, its samples, the pad round its slices, and the ends at which there is a layer of it
pub record SlabInPad : Type 0 where
  pub grid : Grid
  pub samples : List ℤ
  pub pad : ℤ
  pub ends : Ends

-- a layer at both ends
abbrev pub both : Ends
both = record { below = true; above = true }

-- how many layers there are at an end
abbrev pub layers : Bool → ℕ
layers there = if there then 1 else 0

-- the grid with a ring round each slice, and the layers at its ends
abbrev pub ringed : Ends → Grid → Grid
ringed e g = record { nx = g.nx + 2; ny = g.ny + 2; nz = g.nz + (layers e.below + layers e.above) }

-- the same samples with a layer at both ends
abbrev pub in_both : SlabInPad → InPad
in_both s = record { grid = s.grid; samples = s.samples; pad = s.pad }

-- a point of the slab, in the grid with a layer at both ends: where there is none below, one slice further up
abbrev pub point_in_both : SlabInPad → ℕ → ℕ
point_in_both s point = if s.ends.below then point else point + (s.grid.nx + 2) * (s.grid.ny + 2)

-- the sample at a point of the slab is the one that stands there with a layer at both ends
abbrev pub slab_at : SlabInPad → ℕ → ℤ
slab_at s point = padded_at (in_both s) (point_in_both s point)

-- the samples of the slab
abbrev pub slab_list : SlabInPad → List ℤ
slab_list s = map (slab_at s) (below (point_count (ringed s.ends s.grid)))

-- one sample for each point of a grid that is one in its ring and with its layers too
pub record IsSlabInPad (s : SlabInPad) : Type 0 where
  pub inner : IsGrid s.grid
  pub grid : IsGrid (ringed s.ends s.grid)
  pub count : length s.samples ≡ point_count s.grid
  pub pad : IsSample s.pad

-- whether the point (x, y, z) of a slab lies in a ring, or in a layer at an end
abbrev pub is_in_pad : Ends → Grid → ℕ → ℕ → ℕ → Bool
is_in_pad e g x y z =
    ((x == 0) || (x == g.nx + 1)) || (((y == 0) || (y == g.ny + 1))
    || ((e.below && (z == 0)) || (e.above && (z == g.nz + layers e.below))))

-- the sample at each point of a slab: the pad in a ring and in a layer at an end, else the old sample
abbrev pub HoldsPadAround : SlabInPad → Type 0
HoldsPadAround s =
    (x y z : ℕ) → x < s.grid.nx + 2 → y < s.grid.ny + 2 → z < s.grid.nz + (layers s.ends.below + layers s.ends.above)
    → sample (slab_list s) (index (ringed s.ends s.grid) x y z)
    ≡ (if is_in_pad s.ends s.grid x y z then s.pad else sample s.samples (index s.grid (x - 1) (y - 1) (z - layers s.ends.below)))
