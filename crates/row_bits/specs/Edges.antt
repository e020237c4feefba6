-- The crossing edges of a row of points by their offsets: three times how far an edge's point is along x, and its axis.
use Rattle.std.specs.Prelude.{ℕ, ◌+◌, ◌*◌, ◌/◌, ◌%◌, ◌==◌, cond, List, [], ◌∷◌, ◌++◌, slice_index}
use Rattle.std.specs.List.{flat_map, range_with_len}

-- those that begin at a point, by its flags
abbrev pub edges_at : ℕ → ℕ → List ℕ
edges_at flags x =
    cond (flags % 2 == 1) ((3 * x) ∷ []) [] ++ (cond (flags / 2 % 2 == 1) ((3 * x + 1) ∷ []) []
    ++ cond (flags / 4 == 1) ((3 * x + 2) ∷ []) [])

-- and at n points from one on
unfoldable pub edges_among : List ℕ → ℕ → ℕ → List ℕ
edges_among flags x n = flat_map (λ x. edges_at (slice_index flags x) x) (range_with_len x n)
