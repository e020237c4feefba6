-- A table of the numbers that a byte can be.
use Rattle.std.specs.Prelude.{◌≡◌, ℕ, ◌<◌, ◌≤◌, List, [], length, take, get_or, pos}
use Rattle.nrrd_text.specs.Writing.{next_number}

-- the number behind a space, and behind the room of four bytes how many of them these are
pub record IsEntry (entry : List ℕ) (b : ℕ) : Type 0 where
  pub size : length entry ≡ 8
  pub few : get_or entry 4 0 ≤ 4
  pub text : take (get_or entry 4 0) entry ≡ next_number (pos b)

-- the entries of all bytes
pub record AreByteNumbers (table : List (List ℕ)) : Type 0 where
  pub all : length table ≡ 256
  pub each : (b : ℕ) → b < 256 → IsEntry (get_or table b []) b
