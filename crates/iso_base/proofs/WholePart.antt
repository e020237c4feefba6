-- How many digits the whole part of a number of thousandths has.
use Rattle.std.proofs.Common.{◌≤◌, ◌<◌, ◌/◌, ◌^◌, ℕ, length, decimal, arith}
use Rattle.std.proofs.lemmas.Fmt.{length-decimal-le}

-- that of a number of 64 bits
pub whole_part : (n : ℕ) → n < 2 ^ 64 → length (decimal (n / 1000)) ≤ 17
whole_part n bound = length-decimal-le 17 (n / 1000) (omega arith) (omega arith) (omega arith)

-- that of a position, and of a level
pub short_whole_part : (n : ℕ) → n ≤ 2 ^ 44 → length (decimal (n / 1000)) ≤ 11
short_whole_part n bound = length-decimal-le 11 (n / 1000) (omega arith) (omega arith) (omega arith)
