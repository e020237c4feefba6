-- How many centres and triangles the cells of a volume have.
use Rattle.std.specs.Prelude.{◌≡◌, ℕ, ◌*◌, ◌≤◌, Bool, List, length}
use Rattle.std.specs.List.{filter, flat_map, range_with_len}
use Rattle.iso_defs.specs.Grid.{is_cell}
use Rattle.iso_defs.specs.Rows.{row_count}
use Rattle.iso_defs.specs.Scratch.{cell_centres}
use Rattle.flat_mesh.specs.Found.{numbered}
use Rattle.flat_mesh.specs.Lattice.{Leveled, heights}
use Rattle.mesh_rows.specs.declared.counts.Counts.{Counts}

-- what those of n numbers from a on give that pass a test
unfoldable pub span : {X : Type 0} → (ℕ → List X) → (ℕ → Bool) → ℕ → ℕ → List X
span f p a n = flat_map f (filter p (range_with_len a n))

-- how many centres the cells among n points from a on have
abbrev pub centres_among : Leveled → ℕ → ℕ → ℕ
centres_among v a n = length (span (cell_centres v.grid (heights v)) (is_cell v.grid) a n)

-- and how many triangles
abbrev pub triangles_among : Leveled → ℕ → ℕ → ℕ
triangles_among v a n = length (span (numbered v) (is_cell v.grid) a n)

-- how many centres and triangles the cells before a point have
pub record AreCounts (v : Leveled) (q : ℕ) (counts : Counts) : Type 0 where
  pub centres : counts.centres ≡ centres_among v 0 q
  pub faces : counts.faces ≡ triangles_among v 0 q
  pub few_centres : counts.centres ≤ 4 * q
  pub few_faces : counts.faces ≤ 12 * q

-- those of all cells
abbrev pub AreAllCounts : Leveled → Counts → Type 0
AreAllCounts v counts = AreCounts v (v.grid.nx * row_count v.grid) counts
