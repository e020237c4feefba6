-- The flags of points and the cases of cells, by the numbers of the points: flags, and eightfold cases. Cells that have crossing edges, by
-- their sign bytes.
use Rattle.std.specs.Prelude.{ℕ, ◌/◌, ◌%◌, ◌==◌, ◌||◌, cond, List, map}

-- the flags of the points
abbrev pub flags_of : List ℕ → List ℕ
flags_of numbers = map (λ n. n % 8) numbers

-- the cases of the cells that begin at them
abbrev pub cases_of : List ℕ → List ℕ
cases_of numbers = map (λ n. n / 8) numbers

-- 1 for the sign byte of a cell that has crossing edges, 0 for another
abbrev pub mixed_of : List ℕ → List ℕ
mixed_of bytes = map (λ byte. cond (byte == 0 || byte == 255) 0 1) bytes
