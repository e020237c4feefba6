-- The cases that are named for the cells of rows of bricks.
use Rattle.std.specs.Prelude.{◌≡◌, ℕ, ◌+◌, ◌%◌, ◌<◌, ◌&&◌, ℤ, Bool, true, not, cond, List, All, length, map}
use Rattle.std.specs.List.{count_by, range_with_len, sum_by}
use Rattle.iso_defs.specs.Grid.{Grid}
use Rattle.iso_defs.specs.Bricks.{brick_count, bricks_along, entries, in_brick, is_active, row_cases}
use Rattle.cell_loops.specs.Loops.{row_centres, row_loops, row_triangles}
use Rattle.brick_rows.specs.Bricks.{first_brick}
use Rattle.mesh_rows.specs.declared.counts.Counts.{Counts}

-- for each row of each brick the case numbers of its cells, what the cells of each brick have, and which bricks are kept
pub record Named : Type 0 where
  pub grid : Grid
  pub cases : ℕ → ℕ → ℕ → List ℕ
  pub counts : ℕ → Counts
  pub kept : ℕ → Bool

-- how many centres and triangles the cells of some entries have
unfoldable pub centres_of_entries : List ℕ → ℕ
centres_of_entries es = sum_by (λ e. length (row_centres (e % 1024))) es

unfoldable pub triangles_of_entries : List ℕ → ℕ
triangles_of_entries es = sum_by (λ e. length (row_triangles (e % 1024))) es

-- both of them
abbrev pub counts_of_entries : List ℕ → Counts
counts_of_entries es = record { centres = centres_of_entries es; faces = triangles_of_entries es }

-- a brick has a row of cells
pub record IsCellRow (g : Grid) (brick y z : ℕ) : Type 0 where
  pub known : brick < brick_count g
  pub y_low : y < 8
  pub z_low : z < 8
  pub there : in_brick g brick 1 (y + 1) (z + 1) ≡ true

-- numbers of cases that have the loops of some cases: a cell without a crossing edge may go by either case that has no loops
pub record HaveLoops (numbers cases : List ℕ) : Type 0 where
  pub small : All (λ n. n < 656) numbers
  pub loops : map row_loops numbers ≡ map row_loops cases

-- these are named for the cases of each row of each active brick, and counted in it
pub record NamesCases (names : Named) (g : Grid) (s : ℕ → ℤ) : Type 0 where
  pub grid : names.grid ≡ g
  pub each : (brick y z : ℕ) → is_active g s brick ≡ true → IsCellRow g brick y z →
      HaveLoops (names.cases brick y z) (row_cases g s brick y z)
  pub counts : (brick : ℕ) → is_active g s brick ≡ true → names.counts brick ≡ counts_of_entries (entries g s brick)

-- how many steps a row of a brick may cost
abbrev pub row_cost : Named → ℕ → ℕ
row_cost names brick = cond (names.kept brick) 0 8

-- whether the brick is active and not kept
unfoldable pub is_asked : Grid → (ℕ → ℤ) → Named → ℕ → Bool
is_asked g s names brick = is_active g s brick && not (names.kept brick)

-- how many bricks are, among n from a number on
unfoldable pub asked_among : Grid → (ℕ → ℤ) → Named → ℕ → ℕ → ℕ
asked_among g s names a n = count_by (is_asked g s names) (range_with_len a n)

-- how many are, among the bricks that hold the points (x, y, z) for all x
abbrev pub asked_along : Grid → (ℕ → ℤ) → Named → ℕ → ℕ → ℕ
asked_along g s names y z = asked_among g s names (first_brick g y z) (bricks_along g 0)
