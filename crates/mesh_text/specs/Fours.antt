-- A table of the digits of numbers, four to a number.
use Rattle.std.specs.Prelude.{◌≡◌, ℕ, ◌+◌, ◌*◌, ◌/◌, ◌%◌, ◌<◌, ◌≤◌, List, [], ◌∷◌, length, take, drop, decimal, slice_index}
use Rattle.iso_defs.specs.Bytes.{digit_zero, space}

-- a number below 10,000 in four digits
abbrev pub four_digits : ℕ → List ℕ
four_digits n =
    (digit_zero + n / 1000) ∷ (digit_zero + n / 100 % 10) ∷ (digit_zero + n / 10 % 10) ∷ (digit_zero + n % 10) ∷ []

-- the four digits of each number below 10,000, one number behind another, and eight bytes more
pub record AreFours (table : List ℕ) : Type 0 where
  pub all : length table ≡ 40008
  pub each : (n : ℕ) → n < 10000 → take 4 (drop (4 * n) table) ≡ four_digits n

-- how many digits each number below 10,000 has
pub record AreCounts (counts : List ℕ) : Type 0 where
  pub all : length counts ≡ 10000
  pub each : (n : ℕ) → n < 10000 → slice_index counts n ≡ length (decimal n)
  pub few : (n : ℕ) → n < 10000 → slice_index counts n ≤ 4

-- the last three digits of a number, and the blank behind it
abbrev pub rest_text : ℕ → List ℕ
rest_text n = (digit_zero + n / 100) ∷ (digit_zero + n / 10 % 10) ∷ (digit_zero + n % 10) ∷ space ∷ []

-- those of each number below 1,000, one behind another
pub record AreRests (table : List ℕ) : Type 0 where
  pub all : length table ≡ 4000
  pub each : (n : ℕ) → n < 1000 → take 4 (drop (4 * n) table) ≡ rest_text n
