-- How many bricks are asked while the rows of points are walked over.
use Rattle.std.specs.Prelude.{ℕ, ◌+◌, ◌&&◌, nat_lt, if◌then◌else◌}
use Rattle.std.specs.List.{sum_by}
use Rattle.iso_defs.specs.Lists.{below}
use Rattle.flat_mesh.specs.Lattice.{Leveled, heights}
use Rattle.brick_rows.specs.Named.{Named, asked_along}

-- for the row of cells that a row of points begins: the last row of a slice begins none, and neither does one of the last slice
unfoldable pub asked_at : Leveled → Named → ℕ → ℕ → ℕ
asked_at v names z y = if nat_lt (y + 1) v.grid.ny && nat_lt (z + 1) v.grid.nz then asked_along v.grid (heights v) names y z else 0

-- for those of the rows of a slice before one
unfoldable pub asked_before : Leveled → Named → ℕ → ℕ → ℕ
asked_before v names z y = sum_by (asked_at v names z) (below y)

-- for those of the slices before one
unfoldable pub asked_below : Leveled → Named → ℕ → ℕ
asked_below v names z = sum_by (λ z. asked_before v names z v.grid.ny) (below z)
