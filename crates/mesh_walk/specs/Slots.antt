-- What belongs to the crossing edges of the four rows of points round a row of cells, each edge's in a slot of its own.
use Rattle.std.specs.Prelude.{◌≡◌, ℕ, ◌+◌, ◌*◌, ◌/◌, ◌%◌, ◌<◌, List, true, length, nat_lt, if◌then◌else◌, slice_index}
use Rattle.iso_defs.specs.Cell.{edge_corner}
use Rattle.iso_defs.specs.Grid.{is_crossing}
use Rattle.edge_points.specs.Points.{corner_offset}
use Rattle.flat_mesh.specs.Lattice.{Leveled, heights}
use Rattle.flat_mesh.specs.Rows.{row_start}

-- the first slot of a row of points: of rows that lie side by side no two share slots
abbrev pub row_slot : ℕ → ℕ → ℕ
row_slot y z = 3078 * (y % 2 + 2 * (z % 2))

-- the slot of an edge of the first cell of a row of cells
abbrev pub edge_slot : ℕ → ℕ → ℕ → ℕ
edge_slot y z e = row_slot (y + corner_offset (edge_corner e) 1) (z + corner_offset (edge_corner e) 2)
    + (3 * corner_offset (edge_corner e) 0 + e / 4)

-- the slot of a corner of its triangles: from 12 on a corner is a centre
abbrev pub corner_slot : ℕ → ℕ → ℕ → ℕ
corner_slot y z c = if nat_lt c 12 then edge_slot y z c else 12300 + c

-- the slots of a row of points have what is due to its crossing edges, by their names
pub record AreLaid (at expected : ℕ → List ℕ) (v : Leveled) (y z : ℕ) : Type 0 where
  pub each : (e : ℕ) → e < 3 * v.grid.nx → is_crossing v.grid (heights v) (3 * row_start v.grid y z + e) ≡ true →
      at (row_slot y z + e) ≡ expected (3 * row_start v.grid y z + e)

-- so have those of two rows of points of two slices, one behind the other
pub record AreLaidInBoth (at expected : ℕ → List ℕ) (v : Leveled) (y z : ℕ) : Type 0 where
  pub near : AreLaid at expected v y z
  pub far : AreLaid at expected v y (z + 1)

-- and those of the four rows round a row of cells
pub record AreAround (at expected : ℕ → List ℕ) (v : Leveled) (y z : ℕ) : Type 0 where
  pub near : AreLaid at expected v y z
  pub up : AreLaid at expected v (y + 1) z
  pub far : AreLaid at expected v y (z + 1)
  pub both : AreLaid at expected v (y + 1) (z + 1)

-- two of these rows are laid where the next row of cells is the one behind
pub record IsReady (at expected : ℕ → List ℕ) (v : Leveled) (row : ℕ) : Type 0 where
  pub next : (y z : ℕ) → y + 1 < v.grid.ny → z + 1 < v.grid.nz → row ≡ y + v.grid.ny * z → AreLaidInBoth at expected v y z

-- no number stands twice in a list
pub record AreApart (xs : List ℕ) : Type 0 where
  pub each : (j k : ℕ) → j < length xs → k < length xs → slice_index xs j ≡ slice_index xs k → j ≡ k
