-- The cases that are named for the cells of a volume by what is kept of its bricks.
use Rattle.std.specs.Prelude.{ℕ, ◌/◌, ◌%◌, ◌==◌, if◌then◌else◌, List, [], ◌∷◌, map, ℤ}
use Rattle.iso_defs.specs.Lists.{below}
use Rattle.iso_defs.specs.Grid.{Grid}
use Rattle.iso_defs.specs.Cell.{cell_signs}
use Rattle.iso_defs.specs.Bricks.{brick_point, cell_case, cells_along, entries, is_mixed, row_cases}
use Rattle.iso_base.specs.Volume.{field, Volume}
use Rattle.mesh_cache.specs.Cache.{Cache}
use Rattle.mesh_cache.specs.Economy.{is_fresh}
use Rattle.brick_rows.specs.Named.{Named, counts_of_entries}

-- a volume at a level, with what is kept of its bricks
pub record Kept : Type 0 where
  pub volume : Volume
  pub level : ℤ
  pub cache : Cache

-- the case of a cell that has a crossing edge, else the first of the two that have no loops
unfoldable pub looped_case : Grid → (ℕ → ℤ) → ℕ → ℕ
looped_case g s q = if is_mixed (cell_signs g s q) then cell_case g s q else 0

-- those of the cells of a row of a brick
abbrev pub looped_cases : Grid → (ℕ → ℤ) → ℕ → ℕ → ℕ → List ℕ
looped_cases g s brick y z = map (λ x. looped_case g s (brick_point g brick x y z)) (below (cells_along g brick))

-- the cases of all rows of its bricks; a brick is kept that the cache has at the level, and of it only cells with a crossing edge
abbrev pub named_by : Kept → Named
named_by k = record {
  grid = k.volume.grid;
  cases = λ brick y z. if is_fresh brick k.level k.cache.items
      then looped_cases k.volume.grid (field k.volume.samples k.level) brick y z
      else row_cases k.volume.grid (field k.volume.samples k.level) brick y z;
  counts = λ brick. counts_of_entries (entries k.volume.grid (field k.volume.samples k.level) brick);
  kept = λ brick. is_fresh brick k.level k.cache.items;
}

-- the case of the last of some entries that is that of a cell, or another number where none is
abbrev pub last_case : ℕ → List ℕ → ℕ → ℕ
last_case other [] cell = other
last_case other (e ∷ es) cell = last_case (if e / 1024 == cell then e % 1024 else other) es cell
