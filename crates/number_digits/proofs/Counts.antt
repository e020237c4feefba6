-- How many digits a number has.
use Rattle.std.proofs.Common.{◌≡◌, ℕ, ◌+◌, ◌/◌, ◌<◌, ◌≤◌, ◌^◌, length, decimal, ap, ◌∙◌, arith, length-append}
use Rattle.std.proofs.lemmas.Fmt.{decimal_digit, decimal_step}

pub one_digit : (n : ℕ) → n < 10 → length (decimal n) ≡ 1
one_digit n h = ap length (decimal_digit n h)

more_digits : (n k : ℕ) → 10 ≤ n → n < 2 ^ 64 → length (decimal (n / 10)) ≡ k → length (decimal n) ≡ k + 1
more_digits n k lo hi e = ap length (decimal_step n lo hi) ∙ (length-append _ _ ∙ ap (λ (l : ℕ). l + 1) e)

pub two_digits : (n : ℕ) → 10 ≤ n → n < 100 → length (decimal n) ≡ 2
two_digits n lo hi = more_digits n 1 lo (omega arith) (one_digit (n / 10) (omega arith))

pub three_digits_of : (n : ℕ) → 100 ≤ n → n < 1000 → length (decimal n) ≡ 3
three_digits_of n lo hi = more_digits n 2 (omega arith) (omega arith) (two_digits (n / 10) (omega arith) (omega arith))

pub four_digits_of : (n : ℕ) → 1000 ≤ n → n < 10000 → length (decimal n) ≡ 4
four_digits_of n lo hi = more_digits n 3 (omega arith) (omega arith) (three_digits_of (n / 10) (omega arith) (omega arith))

-- a number of more than four digits has four more than its ten thousandths
pub four_more : (n k : ℕ) → 10000 ≤ n → n < 2 ^ 64 → k ≡ length (decimal (n / 10000)) → k + 4 ≡ length (decimal n)
four_more n k lo hi e =
    let a : n / 10 / 10 / 10 / 10 ≡ n / 10000 = omega arith in
    let l = ap (λ (m : ℕ). length (decimal m)) a in
    let first = more_digits (n / 10 / 10 / 10) k (omega arith) (omega arith) (omega (arith, l, e)) in
    let second = more_digits (n / 10 / 10) (k + 1) (omega arith) (omega arith) first in
    let third = more_digits (n / 10) (k + 1 + 1) (omega arith) (omega arith) second in
    let fourth = more_digits n (k + 1 + 1 + 1) (omega arith) (omega arith) third in
    omega (arith, fourth)

-- and one of more than eight has eight more than its hundred millionths
pub eight_more : (n k : ℕ) → 100000000 ≤ n → n < 2 ^ 64 → k ≡ length (decimal (n / 100000000)) → k + 8 ≡ length (decimal n)
eight_more n k lo hi e =
    let a : n / 10000 / 10000 ≡ n / 100000000 = omega arith in
    let l = ap (λ (m : ℕ). length (decimal m)) a in
    let first = four_more (n / 10000) k (omega arith) (omega arith) (omega (arith, l, e)) in
    omega (arith, four_more n (k + 4) (omega arith) hi first)
