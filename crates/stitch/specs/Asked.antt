-- How many bricks are asked for a row of cells.
use Rattle.std.specs.Prelude.{ℕ, ◌/◌, ◌%◌}
use Rattle.flat_mesh.specs.Lattice.{Leveled, heights}
use Rattle.brick_rows.specs.Named.{Named, asked_along}

-- by the number of the row of points that begins it
unfoldable pub asked_in_row : Leveled → Named → ℕ → ℕ
asked_in_row v names r = asked_along v.grid (heights v) names (r % v.grid.ny) (r / v.grid.ny)
