-- The least and the greatest sample of each brick of a volume.
use Rattle.std.specs.Prelude.{◌≡◌, ℕ, ◌+◌, ◌≤◌, ℤ, pos, negsuc, Bool, not, ◌&&◌, List, map, slice_index_or}
use Rattle.std.specs.List.{flat_map, fold}
use Rattle.std.specs.Int.{int_max, int_min}
use Rattle.iso_defs.specs.Lists.{below}
use Rattle.iso_defs.specs.Grid.{Grid}
use Rattle.iso_defs.specs.Bricks.{brick_count, brick_point, brick_start}
use Rattle.iso_base.specs.Volume.{IsSample, is_above_level, Volume, sample}
use Rattle.voxel_list.specs.Areas.{Area}
use Rattle.brick_store.specs.Holding.{points_along}

-- the least and the greatest of some samples
pub record Span : Type 0 where
  pub least : ℤ
  pub greatest : ℤ

-- both are in the range of samples
pub record IsSpan (s : Span) : Type 0 where
  pub least : IsSample s.least
  pub greatest : IsSample s.greatest

-- the span of no samples: the least is the greatest that there can be, and the other way round
abbrev pub no_span : Span
no_span = record { least = pos 4294967295; greatest = negsuc 2147483647 }

-- the span of one sample
abbrev pub one_span : ℤ → Span
one_span v = record { least = v; greatest = v }

-- the span of some samples and one more
abbrev pub with_sample : Span → ℤ → Span
with_sample s v = record { least = int_min s.least v; greatest = int_max s.greatest v }

-- the span of two lots of samples
abbrev pub joined : Span → Span → Span
joined s t = record { least = int_min s.least t.least; greatest = int_max s.greatest t.greatest }

-- the span of a list of samples
abbrev pub list_span : List ℤ → Span
list_span samples = record {
  least = fold int_min (pos 4294967295) samples;
  greatest = fold int_max (negsuc 2147483647) samples;
}

-- whether the least is below the level and the greatest is above
abbrev pub straddles : ℤ → Span → Bool
straddles level s = not (is_above_level s.least level) && is_above_level s.greatest level

-- the samples of a brick, row by row
abbrev pub row_of : Volume → ℕ → ℕ → ℕ → List ℤ
row_of v brick z y = map (λ x. sample v.samples (brick_point v.grid brick x y z)) (below (points_along v.grid brick 0))

abbrev pub slice_of : Volume → ℕ → ℕ → List ℤ
slice_of v brick z = flat_map (row_of v brick z) (below (points_along v.grid brick 1))

abbrev pub brick_samples : Volume → ℕ → List ℤ
brick_samples v brick = flat_map (slice_of v brick) (below (points_along v.grid brick 2))

-- the least and the greatest sample of a brick
unfoldable pub span_of : Volume → ℕ → Span
span_of v brick = list_span (brick_samples v brick)

-- all points that a brick may have lie in the grid
pub record IsWhole (g : Grid) (brick : ℕ) : Type 0 where
  pub x : points_along g brick 0 ≡ 9
  pub y : points_along g brick 1 ≡ 9
  pub z : points_along g brick 2 ≡ 9

-- all points of a brick lie in a box
pub record LiesIn (g : Grid) (a : Area) (brick : ℕ) : Type 0 where
  pub x_from : a.low.x ≤ brick_start g brick 0
  pub x_to : brick_start g brick 0 + points_along g brick 0 ≤ a.high.x + 1
  pub y_from : a.low.y ≤ brick_start g brick 1
  pub y_to : brick_start g brick 1 + points_along g brick 1 ≤ a.high.y + 1
  pub z_from : a.low.z ≤ brick_start g brick 2
  pub z_to : brick_start g brick 2 + points_along g brick 2 ≤ a.high.z + 1

-- a tree: a grid, and a span for each brick
pub record Tree : Type 0 where
  pub grid : Grid
  pub spans : List Span

-- the span of a brick in a list
abbrev pub span_at : List Span → ℕ → Span
span_at spans brick = slice_index_or spans brick no_span

-- the spans of all bricks of a volume
abbrev pub spans_of : Volume → List Span
spans_of v = map (span_of v) (below (brick_count v.grid))

-- the tree has the spans of the volume
abbrev pub IsRightFor : Tree → Volume → Type 0
IsRightFor t v = t ≡ record { grid = v.grid; spans = spans_of v }
