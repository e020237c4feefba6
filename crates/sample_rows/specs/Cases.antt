-- The cases of the cells that begin in a row of points.
use Rattle.std.specs.Prelude.{◌≡◌, ℕ, ◌+◌, ◌*◌, ◌/◌, ◌<◌, ◌≤◌, [], All, List, length, min, slice_index}
use Rattle.std.specs.Int.{bit_at}
use Rattle.iso_defs.specs.Bricks.{bits_of}
use Rattle.iso_defs.specs.Grid.{Grid, index}
use Rattle.flat_mesh.specs.Cases.{signs_at}
use Rattle.flat_mesh.specs.Faces.{loops_at}
use Rattle.flat_mesh.specs.Lattice.{Leveled}
use Rattle.flat_mesh.specs.Rows.{row_start}
use Rattle.mesh_rows.specs.Counts.{AreCounts}
use Rattle.mesh_rows.specs.Rows.{AreCasesTo, IsCaseOf}
use Rattle.mesh_rows.specs.declared.counts.Counts.{Counts}

-- a row of points begins no cells, or cells without loops
pub record HasNoLoops (v : Leveled) (y z : ℕ) : Type 0 where
  pub none : (x : ℕ) → x + 1 < v.grid.nx → y + 1 < v.grid.ny → z + 1 < v.grid.nz → loops_at v (index v.grid x y z) ≡ []

-- the cases of the cells that begin in a row of points, and 0 for its last point
pub record AreRowCases (v : Leveled) (y z : ℕ) (cases : List ℕ) : Type 0 where
  pub count : length cases ≡ v.grid.nx
  pub small : All (λ c. c < 656) cases
  pub each : (x : ℕ) → x + 1 < v.grid.nx → y + 1 < v.grid.ny → z + 1 < v.grid.nz
      → IsCaseOf v (index v.grid x y z) (slice_index cases x)
  pub last : (x : ℕ) → x + 1 ≡ v.grid.nx → slice_index cases x ≡ 0

-- room for a byte for each point of a row and for some more, up to a multiple of 64: zeros from the last point on
pub record HaveRoom (g : Grid) (bytes : List ℕ) : Type 0 where
  pub count : length bytes ≡ (g.nx + 63) / 64 * 64
  pub rest : (x : ℕ) → g.nx ≤ x + 1 → slice_index bytes x ≡ 0

-- the sign bytes of the cells of a row. What stands behind them is open
abbrev pub AreBytes : Leveled → ℕ → ℕ → List ℕ → Type 0
AreBytes v y z bytes = (x : ℕ) → x + 1 < v.grid.nx
    → bits_of 8 (slice_index bytes x) ≡ signs_at v (index v.grid x y z)

-- those of the cells that begin in a row of points, if it begins any
abbrev pub AreRowBytes : Leveled → ℕ → ℕ → List ℕ → Type 0
AreRowBytes v y z bytes = y + 1 < v.grid.ny → z + 1 < v.grid.nz → AreBytes v y z bytes

-- bits that tell which of 64 cells of a row from a place on may have loops
pub record AreMixed (v : Leveled) (y z low bits : ℕ) : Type 0 where
  pub none : (k : ℕ) → k < 64 → low + k + 1 < v.grid.nx → bit_at bits k ≡ 0 → loops_at v (index v.grid (low + k) y z) ≡ []
  pub inside : (k : ℕ) → k < 64 → bit_at bits k ≡ 1 → low + k + 1 < v.grid.nx

-- the cases of the cells of a row up to a place and of 64 from there on, but for those among the 64 whose bits are set, which may have
-- others, and zeros behind them
pub record AreCasesBut (v : Leveled) (y z low bits : ℕ) (cases : List ℕ) : Type 0 where
  pub before : AreCasesTo v y z low cases
  pub clear : (k : ℕ) → k < 64 → low + k + 1 < v.grid.nx → bit_at bits k ≡ 0
      → IsCaseOf v (index v.grid (low + k) y z) (slice_index cases (low + k))
  pub inside : (k : ℕ) → k < 64 → bit_at bits k ≡ 1 → low + k + 1 < v.grid.nx
  pub zeros : (x : ℕ) → low + 64 ≤ x → slice_index cases x ≡ 0
  pub behind : (x : ℕ) → v.grid.nx ≤ x + 1 → slice_index cases x ≡ 0

-- the cases of the first cells of a row, zeros behind them, and the counts of all cells before
pub record ArePut (v : Leveled) (y z count : ℕ) (cases : List ℕ) (counts : Counts) : Type 0 where
  pub cases_are : AreCasesTo v y z count cases
  pub zeros : (x : ℕ) → count ≤ x → slice_index cases x ≡ 0
  pub behind : (x : ℕ) → v.grid.nx ≤ x + 1 → slice_index cases x ≡ 0
  pub counted : AreCounts v (row_start v.grid y z + min count v.grid.nx) counts
