-- The active cells of a row: those that may have loops.
use Rattle.std.specs.Prelude.{ℕ, ◌==◌, List, not, slice_index}
use Rattle.std.specs.List.{filter, range_with_len}

-- those among n cells from one on that have another case than the first, which has no loops
unfoldable pub active_among : List ℕ → ℕ → ℕ → List ℕ
active_among cases x n = filter (λ x. not (slice_index cases x == 0)) (range_with_len x n)
