-- Entries of the cells of a brick, and the cases of a row of them.
use Rattle.std.specs.Prelude.{◌≡◌, ℕ, ◌+◌, ◌*◌, ℤ, List, map}
use Rattle.std.specs.List.{filter, range_with_len}
use Rattle.iso_defs.specs.Lists.{below}
use Rattle.iso_defs.specs.Grid.{Grid}
use Rattle.iso_defs.specs.Bricks.{bits_of, brick_cell, cell_case, is_active_cell}
use Rattle.case_table.specs.Cases.{ambiguous_flags}
use Rattle.brick_mesh.specs.Block.{BrickAt, heights, point_in}

-- a sign byte of which no face is ambiguous
abbrev pub IsPlain : ℕ → Type 0
IsPlain signs = ambiguous_flags (bits_of 8 signs) ≡ bits_of 6 0

-- the case number of a cell, as a word that stays closed
unfoldable pub case_of : Grid → (ℕ → ℤ) → ℕ → ℕ
case_of g s q = cell_case g s q

-- the entry of a cell of a brick
abbrev pub entry_of : BrickAt → ℕ → ℕ
entry_of b cell = 1024 * cell + case_of b.grid (heights b) (brick_cell b.grid b.brick cell)

-- the entries of a run of cells of a brick, from a cell on
unfoldable pub entries_from : BrickAt → ℕ → ℕ → List ℕ
entries_from b first count = map (entry_of b)
    (filter (is_active_cell b.grid (heights b) b.brick) (range_with_len first count))

-- the cases of the first cells of a row of a brick
unfoldable pub first_cases : BrickAt → ℕ → ℕ → ℕ → List ℕ
first_cases b y z count = map (λ x. case_of b.grid (heights b) (point_in b x y z)) (below count)
