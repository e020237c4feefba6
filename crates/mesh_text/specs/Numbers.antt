-- The texts of numbers as the code holds them.
use Rattle.std.specs.Prelude.{◌≡◌, ℕ, ◌+◌, ◌-◌, ◌<◌, ◌≤◌, ◌^◌, List, [], ◌++◌, decimal, length, take, slice_index, slice_index_or}
use Rattle.iso_defs.specs.Texts.{line}
use Rattle.mesh_text.specs.declared.number.Number.{Number}

-- the digits of a number and the blank behind them: the last of its bytes says how many they are
abbrev pub number_text : Number → List ℕ
number_text n = take (slice_index n.bytes 15) n.bytes

-- there are few enough for a line
pub record IsShort (n : Number) : Type 0 where
  pub some : 1 ≤ length (number_text n)
  pub few : length (number_text n) ≤ 12

-- the text of a number of a list
abbrev pub text_at : List Number → ℕ → List ℕ
text_at numbers i = number_text (slice_index_or numbers i (record { bytes = [] }))

-- the line of three such texts: it ends in place of the last blank
abbrev pub numbers_line : List ℕ → List ℕ → List ℕ → List ℕ
numbers_line a b c = a ++ (b ++ line (take (length c - 1) c))

-- the digits before the last three stand at the front of these bytes, and the last byte says how long a number's text is
pub record IsFront (thousands : ℕ) (front : List ℕ) (count : ℕ) : Type 0 where
  pub front_is : take count front ≡ decimal thousands
  pub few : thousands ≤ 10 ^ 7
  pub room : count ≤ 8
  pub size : slice_index front 15 ≡ count + 4

-- and the last three are a number's
pub record IsCounter (thousands rest : ℕ) (front : List ℕ) (count : ℕ) : Type 0 where
  pub low : rest < 1000
  pub before : IsFront thousands front count
