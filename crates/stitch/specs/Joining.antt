-- The mesh of a field is the meshes of its rows, joined end to end.
use Rattle.std.specs.Prelude.{◌≡◌, ℕ, ℤ, ◌+◌, ◌*◌, ◌<◌, ◌≤◌, length, nat_lt}
use Rattle.std.specs.List.{count_by, flat_map}
use Rattle.iso_defs.specs.Lists.{below}
use Rattle.iso_defs.specs.Grid.{Grid, cells}
use Rattle.iso_defs.specs.Rows.{row_cells, row_count, row_edges}
use Rattle.iso_defs.specs.Scratch.{cell_centres, cell_triangles, crossing_edges, named_triangles, number_of}

-- the vertices on edges, the centres and the triangles are those of each row, row after row; and the number of a crossing
-- edge's vertex is how many crossing edges stand in earlier rows and earlier in its own row r
pub record JoinsRows (g : Grid) (s : ℕ → ℤ) : Type 0 where
  pub edges : crossing_edges g s ≡ flat_map (row_edges g s) (below (row_count g))
  pub centres : flat_map (cell_centres g s) (cells g)
      ≡ flat_map (λ r. flat_map (cell_centres g s) (row_cells g r)) (below (row_count g))
  pub faces : named_triangles g s ≡ flat_map (λ r. flat_map (cell_triangles g s) (row_cells g r)) (below (row_count g))
  pub numbers : (r n : ℕ) → r < row_count g → r * (3 * g.nx) ≤ n → n < r * (3 * g.nx) + 3 * g.nx
      → number_of g s n ≡ length (flat_map (row_edges g s) (below r)) + count_by (λ u. nat_lt u n) (row_edges g s r)
