-- What is known of the points and the cells of a row of a volume.
use Rattle.std.specs.Prelude.{◌≡◌, ℕ, ◌+◌, ◌-◌, ◌*◌, ◌<◌, ◌≤◌, ℤ, List, [], cond, min, length, map, nat_lt, slice_index}
use Rattle.iso_defs.specs.Grid.{index}
use Rattle.iso_defs.specs.Bricks.{bricks_along}
use Rattle.iso_base.specs.Volume.{Volume, sample}
use Rattle.corner_signs.specs.Rows.{bit_from}
use Rattle.crossing_edges.specs.Flags.{flags_at}
use Rattle.crossing_edges.specs.Signs.{flag_of}
use Rattle.flat_mesh.specs.Lattice.{Leveled, heights}
use Rattle.flat_mesh.specs.Faces.{loops_at}
use Rattle.flat_mesh.specs.Rows.{row_start}
use Rattle.mesh_rows.specs.Rows.{AreFlags, AreFlagsTo}
use Rattle.brick_rows.specs.declared.points.PointRuns.{PointRuns}
use Rattle.brick_rows.specs.Bricks.{IsNextFrom, first_brick, next_at}
use Rattle.brick_rows.specs.Runs.{IsRun}

-- a volume at a level
abbrev pub at_level : Volume → ℤ → Leveled
at_level v level = record { grid = v.grid; samples = v.samples; level = level }

-- the sign of the next sample of a run, or of the last one again
abbrev pub bit_right : ℤ → List ℤ → ℕ → ℕ
bit_right least run i = cond (nat_lt (i + 1) (length run)) (bit_from least (sample run (i + 1)))
    (bit_from least (sample run i))

-- the flags of a point of a run, from the samples of the run and of the next points along y and z
unfoldable pub run_flags : ℤ → List ℤ → List ℤ → List ℤ → ℕ → ℕ
run_flags least here up far i = flag_of (bit_from least (sample here i)) (bit_right least here i)
    (bit_from least (sample up i)) (bit_from least (sample far i))

-- the samples of points from x on, and of the next points along y and z
pub record AreRuns {T : Type 0} (value : T → ℤ) (v : Leveled) (x y z : ℕ) (runs : PointRuns T) : Type 0 where
  pub here : IsRun v x y z (map value runs.here.now)
  pub up : IsRun v x (next_at y v.grid.ny) z (map value runs.up.now)
  pub far : IsRun v x y (next_at z v.grid.nz) (map value runs.far.now)

-- from one place of a row of bricks on the next active brick stands at another, and from behind them all at no other: at points between
-- them no crossing edge begins, and cells between them have no loops
pub record AreStill (v : Leveled) (y z from next : ℕ) : Type 0 where
  pub least : from ≤ next
  pub active : from < bricks_along v.grid 0 →
      IsNextFrom v.grid (heights v) (first_brick v.grid y z + from) (first_brick v.grid y z + next)
  pub end : bricks_along v.grid 0 ≤ from → next ≡ from
  pub points :
      (x : ℕ) → x < v.grid.nx → 8 * from ≤ min x (v.grid.nx - 2) → min x (v.grid.nx - 2) < 8 * next
      → flags_at v.grid (heights v) (row_start v.grid y z + x) ≡ 0
  pub cells : (x : ℕ) → x + 1 < v.grid.nx → 8 * from ≤ x → x < 8 * next → y + 1 < v.grid.ny → z + 1 < v.grid.nz →
      loops_at v (index v.grid x y z) ≡ []

-- those of the first points, and of all where at most one more is left
pub record HasMoreFlags (v : Leveled) (y z count : ℕ) (flags : List ℕ) : Type 0 where
  pub first : AreFlagsTo v y z count flags
  pub all : v.grid.nx ≤ count + 1 → AreFlags v y z flags

-- the numbers from a place on are 0
abbrev pub AreZerosFrom : ℕ → List ℕ → Type 0
AreZerosFrom start numbers = (k : ℕ) → start ≤ k → k < length numbers → slice_index numbers k ≡ 0

-- eight numbers, by place
pub record AreEight (number : ℕ → ℕ) (numbers : List ℕ) : Type 0 where
  pub count : length numbers ≡ 8
  pub each : (i : ℕ) → i < 8 → slice_index numbers i ≡ number i
