-- Bytes that are looked at sixteen at a time.
use Rattle.std.specs.Prelude.{◌≡◌, ℕ, ◌<◌, List, length, slice_index}

-- sixteen numbers, by place
pub record AreSixteen (number : ℕ → ℕ) (numbers : List ℕ) : Type 0 where
  pub count : length numbers ≡ 16
  pub each : (i : ℕ) → i < 16 → slice_index numbers i ≡ number i
