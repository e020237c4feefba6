-- Volumes: types of samples, accepted sizes, samples, their values at a level, and padding.
use Rattle.std.specs.Prelude.{ℕ, ℤ, pos, negsuc, ◌≤ℤ◌, ◌≤◌, Result, Ok, Err, nat_lt, if◌then◌else◌, ◌-ℤ◌, ◌*ℤ◌, Bool, not, List, slice_index_or, ◌≡◌, ◌-◌, ◌*◌, ◌<◌, length, true, All, Option, Some, None, IfSome, MatchOption, ◌+◌, map}
use Rattle.iso_base.specs.declared.kind.SampleKind.{SampleKind}
use Rattle.iso_base.specs.declared.kind.SampleKind.TheVariants.{I8, U8, I16, U16, I32, U32}
use Rattle.iso_defs.specs.Grid.{Grid, point_count, coordinate, index, is_above, is_outer}
use Rattle.iso_base.specs.declared.sizes.SizeFault.{SizeFault}
use Rattle.iso_base.specs.declared.sizes.SizeFault.TheVariants.{TooThin, AxisTooLong, TooMany}
use Rattle.iso_defs.specs.Lists.{below}

-- the least sample of a kind
abbrev pub least_of : SampleKind → ℤ
least_of I8 = negsuc 127
least_of U8 = pos 0
least_of I16 = negsuc 32767
least_of U16 = pos 0
least_of I32 = negsuc 2147483647
least_of U32 = pos 0

-- the greatest sample of a kind
abbrev pub greatest_of : SampleKind → ℤ
greatest_of I8 = pos 127
greatest_of U8 = pos 255
greatest_of I16 = pos 32767
greatest_of U16 = pos 65535
greatest_of I32 = pos 2147483647
greatest_of U32 = pos 4294967295

-- the bytes of a sample
abbrev pub width_of : SampleKind → ℕ
width_of I8 = 1
width_of U8 = 1
width_of I16 = 2
width_of U16 = 2
width_of I32 = 4
width_of U32 = 4

-- what a sample of a kind may be
pub record IsOfKind (kind : SampleKind) (v : ℤ) : Type 0 where
  pub low : least_of kind ≤ℤ v
  pub high : v ≤ℤ greatest_of kind

-- what any sample, and a pad, may be
pub record IsSample (v : ℤ) : Type 0 where
  pub low : negsuc 2147483647 ≤ℤ v
  pub high : v ≤ℤ pos 4294967295

-- a length that an axis may have
pub record IsAxis (n : ℕ) : Type 0 where
  pub least : 2 ≤ n
  pub most : n ≤ 1026

-- a grid within the limits
pub record IsGrid (g : Grid) : Type 0 where
  pub x : IsAxis g.nx
  pub y : IsAxis g.ny
  pub z : IsAxis g.nz
  pub count : point_count g ≤ 160000000

-- the grid, or the first fault: an axis below 2, then one above 1,026, then more than 160,000,000 points
abbrev pub sized : Grid → Result Grid SizeFault
sized g =
    if nat_lt g.nx 2 then Err (TooThin 0 g.nx) else
    if nat_lt g.ny 2 then Err (TooThin 1 g.ny) else
    if nat_lt g.nz 2 then Err (TooThin 2 g.nz) else
    if nat_lt 1026 g.nx then Err (AxisTooLong 0 g.nx) else
    if nat_lt 1026 g.ny then Err (AxisTooLong 1 g.ny) else
    if nat_lt 1026 g.nz then Err (AxisTooLong 2 g.nz) else
    if nat_lt 160000000 (point_count g) then Err (TooMany (point_count g)) else
    Ok g

-- the levels are the whole numbers of thousandths of absolute value below this: 2^33 times 1,000
abbrev pub level_limit : ℕ
level_limit = 8589934592000

-- the shifted value of a sample at a level, which is in thousandths
abbrev pub shifted : ℤ → ℤ → ℤ
shifted sample level = (pos 1000 *ℤ sample) -ℤ level

-- whether a sample is above a level
abbrev pub is_above_level : ℤ → ℤ → Bool
is_above_level sample level = is_above (shifted sample level)

-- whether a level is above a pad, so that no sample of the pad's layer is above the level
abbrev pub is_above_pad : ℤ → ℤ → Bool
is_above_pad level pad = not (is_above_level pad level)

-- the shifted value of each point of a list of samples
abbrev pub field : List ℤ → ℤ → ℕ → ℤ
field samples level p = shifted (slice_index_or samples p (pos 0)) level

-- the sample of a point, by its index
abbrev pub sample : List ℤ → ℕ → ℤ
sample samples p = slice_index_or samples p (pos 0)

-- what a file gives: a grid, a kind and the samples by index
pub record Voxels : Type 0 where
  pub grid : Grid
  pub kind : SampleKind
  pub samples : List ℤ

-- one sample for each point, each of the kind
pub record IsVoxels (v : Voxels) : Type 0 where
  pub grid : IsGrid v.grid
  pub count : length v.samples ≡ point_count v.grid
  pub each : All (IsOfKind v.kind) v.samples

-- a grid, the kind of its samples, an optional pad, and the samples by index, the pad's layer among them
pub record Volume : Type 0 where
  pub grid : Grid
  pub kind : SampleKind
  pub pad : Option ℤ
  pub samples : List ℤ

-- how many layers of points a pad adds on each side
abbrev pub layer : Option ℤ → ℕ
layer None = 0
layer (Some pad) = 1

-- the grid of a volume without the pad's layer on its six sides
abbrev pub inner_grid : Volume → Grid
inner_grid v = record {
  nx = v.grid.nx - 2 * layer v.pad;
  ny = v.grid.ny - 2 * layer v.pad;
  nz = v.grid.nz - 2 * layer v.pad;
}

-- the outer layer holds the pad
abbrev pub HoldsPad : Volume → ℤ → Type 0
HoldsPad v value = (p : ℕ) → p < point_count v.grid → is_outer v.grid p ≡ true → sample v.samples p ≡ value

-- a point whose sample is of the volume's kind: any one, or where there is a pad, one off the outer layer
abbrev pub IsInner : Volume → ℕ → Type 0
IsInner v p = MatchOption v.pad (Unit {0}) (λ _. not (is_outer v.grid p) ≡ true)

-- what every volume is
pub record IsVolume (v : Volume) : Type 0 where
  pub grid : IsGrid v.grid
  pub inner : IsGrid (inner_grid v)
  pub count : length v.samples ≡ point_count v.grid
  pub pad : IfSome v.pad IsSample
  pub holds : IfSome v.pad (HoldsPad v)
  pub each : (p : ℕ) → p < point_count v.grid → IsInner v p → IsOfKind v.kind (sample v.samples p)

-- the volume of what a file gives
abbrev pub unpadded : Voxels → Volume
unpadded v = record { grid = v.grid; kind = v.kind; pad = None; samples = v.samples }

-- the grid with one more layer on each of its six sides
abbrev pub grown : Grid → Grid
grown g = record { nx = g.nx + 2; ny = g.ny + 2; nz = g.nz + 2 }

-- the point of a grid that stands at a point of the grown one off its outer layer: one less along each axis
abbrev pub inner_point : Grid → ℕ → ℕ
inner_point g p = index g (coordinate (grown g) 0 p - 1) (coordinate (grown g) 1 p - 1) (coordinate (grown g) 2 p - 1)

-- the sample at a point of the grown grid: the pad in the outer layer, else the old sample one less along each axis
unfoldable pub padded_sample : Grid → List ℤ → ℤ → ℕ → ℤ
padded_sample g samples pad p = if is_outer (grown g) p then pad else sample samples (inner_point g p)

-- the first samples of the grown grid, so many
abbrev pub first_padded : Grid → List ℤ → ℤ → ℕ → List ℤ
first_padded g samples pad n = map (padded_sample g samples pad) (below n)

-- the volume with the pad round it
abbrev pub padded_volume : Volume → ℤ → Volume
padded_volume v pad = record {
  grid = grown v.grid;
  kind = v.kind;
  pad = Some pad;
  samples = first_padded v.grid v.samples pad (point_count (grown v.grid));
}
