-- Decimal numbers, whole and in thousandths.
use Rattle.std.specs.Prelude.{ℕ, Bool, ◌==◌, ◌&&◌, ◌+◌, ◌-◌, ◌*◌, nat_le, List, [], ◌∷◌, length, fold, ℤ, pos, negsuc, neg_ℤ, Option, Some, None, option_map, option_and_then, if◌then◌else◌, ◌^◌, take, drop, position}
use Rattle.std.specs.List.{list_all}
use Rattle.iso_defs.specs.Bytes.{minus, digit_zero, digit_nine, dot}

-- a decimal digit
abbrev pub is_digit : ℕ → Bool
is_digit b = nat_le digit_zero b && nat_le b digit_nine

-- a number with one more digit at its end
abbrev pub with_digit : ℕ → ℕ → ℕ
with_digit n b = 10 * n + (b - digit_zero)

-- the value of one to eighteen digits
abbrev pub digits_value : List ℕ → Option ℕ
digits_value word =
    if nat_le 1 (length word) && nat_le (length word) 18 && list_all is_digit word
    then Some (fold with_digit 0 word) else None

-- the number that a word says
abbrev pub integer_of : List ℕ → Option ℤ
integer_of [] = None
integer_of (b ∷ bs) = if b == minus then option_map (λ n. neg_ℤ (pos n)) (digits_value bs)
    else option_map pos (digits_value (b ∷ bs))

-- the same without its sign, where it has none
abbrev pub not_negative : ℤ → Option ℕ
not_negative (pos n) = Some n
not_negative (negsuc n) = None

-- a number that is not negative
abbrev pub whole_of : List ℕ → Option ℕ
whole_of word = option_and_then not_negative (integer_of word)

-- the thousandths that one to three digits behind a point are
abbrev pub decimals_value : List ℕ → Option ℕ
decimals_value word = if nat_le (length word) 3
    then option_map (λ n. n * 10 ^ (3 - length word)) (digits_value word) else None

-- the thousandths of digits with a point at this place, or without one
abbrev pub thousandths_by : List ℕ → Option ℕ → Option ℕ
thousandths_by word None = option_map (λ n. 1000 * n) (digits_value word)
thousandths_by word (Some point) =
    option_and_then (λ whole. option_map (λ rest. 1000 * whole + rest) (decimals_value (drop (point + 1) word)))
    (digits_value (take point word))

abbrev pub thousandths_value : List ℕ → Option ℕ
thousandths_value word = thousandths_by word (position (λ b. b == dot) word)

-- the thousandths that a level number says
abbrev pub level_number_of : List ℕ → Option ℤ
level_number_of [] = None
level_number_of (b ∷ bs) = if b == minus then option_map (λ n. neg_ℤ (pos n)) (thousandths_value bs)
    else option_map pos (thousandths_value (b ∷ bs))
