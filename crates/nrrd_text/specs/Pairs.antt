-- A table of the hex digits of bytes.
use Rattle.std.specs.Prelude.{◌≡◌, ℕ, ◌<◌, List, [], length, get_or}
use Rattle.nrrd_text.specs.Writing.{byte_digits}

-- the two digits of each byte
pub record ArePairs (table : List (List ℕ)) : Type 0 where
  pub all : length table ≡ 256
  pub each : (b : ℕ) → b < 256 → get_or table b [] ≡ byte_digits b
