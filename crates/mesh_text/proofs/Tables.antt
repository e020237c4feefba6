-- Numbers out of a table of four digits each.
use borrow.Rule.Slice.PartMut.{put_mid}
use Rattle.std.proofs.Common.{◌≡◌, ℕ, ◌+◌, ◌-◌, ◌*◌, ◌/◌, ◌%◌, ◌<◌, ◌≤◌, ◌^◌, List, [], ◌∷◌, ◌++◌, length, take, drop, decimal, refl, sym, ap, subst, ◌∙◌, append_assoc, arith, inl, inr, eq-zero-or-pos, length-append, slice_index, slice_set}
use Rattle.std.proofs.lemmas.Fmt.{decimal_digit, decimal_step}
use Rattle.std.proofs.lemmas.List.{take-take, take-append-le, take-append-drop, take_at, drop_at, drop-take, length-take-le, drop-drop, get_or-set_same, get_or-set_other}
use Rattle.iso_defs.specs.Texts.{three_digits}
use Rattle.mesh_text.specs.Fours.{AreFours, AreRests, four_digits, rest_text}
use Rattle.number_digits.proofs.Counts.{one_digit, two_digits, three_digits_of, four_digits_of}

-- a number of more than four digits ends with the four of its rest
pub four_last : (n : ℕ) → 10000 ≤ n → n < 2 ^ 64 → decimal n ≡ decimal (n / 10000) ++ four_digits (n % 10000)
four_last n lo hi =
    let a : n / 10 / 10 / 10 / 10 ≡ n / 10000 = omega arith in
    let b : n / 10 / 10 / 10 % 10 ≡ n % 10000 / 1000 = omega arith in
    let c : n / 10 / 10 % 10 ≡ n % 10000 / 100 % 10 = omega arith in
    let d : n / 10 % 10 ≡ n % 10000 / 10 % 10 = omega arith in
    let e : n % 10 ≡ n % 10000 % 10 = omega arith in
    rw (
      decimal_step n (omega arith) hi,
      decimal_step (n / 10) (omega arith) (omega arith),
      decimal_step (n / 10 / 10) (omega arith) (omega arith),
      decimal_step (n / 10 / 10 / 10) (omega arith) (omega arith),
      append_assoc,
      append_assoc,
      append_assoc,
      a,
      b,
      c,
      d,
      ← e,
    )

-- a number of less than five digits is the end of its four
short_one : (n : ℕ) → n < 10 → drop 3 (four_digits n) ≡ decimal n
short_one n h = let e : n % 10 ≡ n = omega arith in ap (λ (d : ℕ). (48 + d) ∷ []) e ∙ sym (decimal_digit n h)

short_two : (n : ℕ) → 10 ≤ n → n < 100 → drop 2 (four_digits n) ≡ decimal n
short_two n lo hi =
    let e : n / 10 % 10 ≡ n / 10 = omega arith in
    rw (decimal_step n lo (omega arith), decimal_digit (n / 10) (omega arith), e)

short_three : (n : ℕ) → 100 ≤ n → n < 1000 → drop 1 (four_digits n) ≡ decimal n
short_three n lo hi =
    let a : n / 10 / 10 ≡ n / 100 = omega arith in
    let b : n / 100 % 10 ≡ n / 100 = omega arith in
    rw (decimal_step n (omega arith) (omega arith), decimal_step (n / 10) (omega arith) (omega arith), a, decimal_digit (n / 100) (omega arith), b)

short_four : (n : ℕ) → 1000 ≤ n → n < 10000 → four_digits n ≡ decimal n
short_four n lo hi =
    let a : n / 10 / 10 / 10 ≡ n / 1000 = omega arith in
    let b : n / 10 / 10 % 10 ≡ n / 100 % 10 = omega arith in
    rw (
      decimal_step n (omega arith) (omega arith),
      decimal_step (n / 10) (omega arith) (omega arith),
      decimal_step (n / 10 / 10) (omega arith) (omega arith),
      a,
      b,
      decimal_digit (n / 1000) (omega arith),
    )

end_of : (n c : ℕ) → n < 10000 → c ≡ length (decimal n) → drop (4 - c) (four_digits n) ≡ decimal n
end_of n c low count =
    elim (eq-zero-or-pos (10 - n)) [
      | inr g ↦ ap (λ (k : ℕ). drop (4 - k) (four_digits n)) (count ∙ one_digit n (omega arith)) ∙ short_one n (omega arith)
      | inl z ↦ elim (eq-zero-or-pos (100 - n)) [
        | inr g ↦ ap (λ (k : ℕ). drop (4 - k) (four_digits n)) (count ∙ two_digits n (omega arith) (omega arith)) ∙ short_two n (omega arith) (omega arith)
        | inl y ↦ elim (eq-zero-or-pos (1000 - n)) [
          | inr g ↦ ap (λ (k : ℕ). drop (4 - k) (four_digits n)) (count ∙ three_digits_of n (omega arith) (omega arith)) ∙ short_three n (omega arith) (omega arith)
          | inl x ↦ ap (λ (k : ℕ). drop (4 - k) (four_digits n)) (count ∙ four_digits_of n (omega arith) low) ∙ short_four n (omega arith) low
        ]
      ]
    ]

-- the end of a number's four digits, and what stands behind them
end_written : (t old new text : List ℕ) (n at c : ℕ) → AreFours t → n < 10000 → drop (4 - c) (four_digits n) ≡ text → c ≡ length text → c ≤ 4 → at ≤ length old
    → take (at + 4) new ≡ take at old ++ take 4 (drop (4 * n + (4 - c)) t) → take (at + c) new ≡ take at old ++ text
end_written t old new text n at c h low end count few le w =
    let bytes : List ℕ = take 4 (drop (4 * n + (4 - c)) t) in
    let sum : (4 - c) + c ≡ 4 = omega (arith, few) in
    let number : take c bytes ≡ text =
    take-take c 4 (drop (4 * n + (4 - c)) t) few
    ∙ (ap (take c) (sym (drop-drop (4 - c) (4 * n) t))
    ∙ (sym (drop-take (4 - c) c (drop (4 * n) t))
    ∙ (ap (λ (m : ℕ). drop (4 - c) (take m (drop (4 * n) t))) sum
    ∙ (ap (drop (4 - c)) (h.each n low) ∙ end)))) in
    let whole : take at old ++ bytes ≡ (take at old ++ text) ++ drop c bytes =
    ap (λ (l : List ℕ). take at old ++ l) (sym (take-append-drop c bytes) ∙ ap (λ (l : List ℕ). l ++ drop c bytes) number)
    ∙ sym (append_assoc (take at old) text (drop c bytes)) in
    let long : length (take at old ++ text) ≡ at + c = length-append (take at old) text ∙ omega (arith, length-take-le at old le, count) in
    sym (take-take (at + c) (at + 4) new (omega (arith, few))) ∙ (ap (take (at + c)) (w ∙ whole) ∙ take_at (take at old ++ text) (drop c bytes) (at + c) long)

pub short_written : (t old new : List ℕ) (n at c : ℕ) → AreFours t → n < 10000 → c ≡ length (decimal n) → c ≤ 4 → at ≤ length old
    → take (at + 4) new ≡ take at old ++ take 4 (drop (4 * n + (4 - c)) t) → take (at + c) new ≡ take at old ++ decimal n
short_written t old new n at c h low count few le w = end_written t old new (decimal n) n at c h low (end_of n c low count) count few le w

pub three_written : (t old new : List ℕ) (n at : ℕ) → AreFours t → n < 1000 → at ≤ length old
    → take (at + 4) new ≡ take at old ++ take 4 (drop (4 * n + 1) t) → take (at + 3) new ≡ take at old ++ three_digits n
three_written t old new n at h low le w =
    let e : n / 100 % 10 ≡ n / 100 = omega arith in
    let end : drop 1 (four_digits n) ≡ three_digits n = ap (λ (d : ℕ). (48 + d) ∷ (48 + n / 10 % 10) ∷ (48 + n % 10) ∷ []) e in
    end_written t old new (three_digits n) n at 3 h (omega arith) end refl (omega arith) le w

-- the four bytes of one more number
pub table_more : (text : ℕ → List ℕ) (old new : List ℕ) (n : ℕ) → 4 * n ≤ length old → take (4 * n + 4) new ≡ take (4 * n) old ++ text n
    → ((j : ℕ) → j < n → take 4 (drop (4 * j) old) ≡ text j) → (j : ℕ) → j < n + 1 → take 4 (drop (4 * j) new) ≡ text j
table_more text old new n le w each j low =
    elim (eq-zero-or-pos (n - j)) [
      | inl z ↦ let e : j ≡ n = omega (arith, low) in
          subst (λ (k : ℕ). take 4 (drop (4 * k) new) ≡ text k) (sym e)
          (sym (drop-take (4 * n) 4 new) ∙ (ap (drop (4 * n)) w ∙ drop_at (take (4 * n) old) (text n) (4 * n) (length-take-le (4 * n) old le)))
      | inr g ↦
          let same : take (4 * j + 4) new ≡ take (4 * j + 4) old =
          sym (take-take (4 * j + 4) (4 * n + 4) new (omega arith))
          ∙ (ap (take (4 * j + 4)) w
          ∙ (take-append-le (4 * j + 4) (take (4 * n) old) (text n) (omega (arith, length-take-le (4 * n) old le))
          ∙ take-take (4 * j + 4) (4 * n) old (omega arith))) in
          sym (drop-take (4 * j) 4 new) ∙ (ap (drop (4 * j)) same ∙ (drop-take (4 * j) 4 old ∙ each j (omega arith)))
    ]

-- a number's last three digits and a blank, put over four bytes
pub rest_put : (table old new : List ℕ) (n at : ℕ) → AreRests table → n < 1000 → new ≡ take 4 (drop (4 * n) table)
    → put_mid at (at + 4 - at) old new ≡ take at old ++ (rest_text n ++ drop (at + 4) old)
rest_put table old new n at h low put =
    let four : at + 4 - at ≡ 4 = omega arith in
    let is : new ≡ rest_text n = put ∙ h.each n low in
    ap (λ k. put_mid at k old new) four
    ∙ (ap (λ (l : List ℕ). take at old ++ (l ++ drop 4 (drop at old))) is ∙ ap (λ (l : List ℕ). take at old ++ (rest_text n ++ l)) (drop-drop 4 at old))

-- a number's front, and the four digits of its rest behind it
pub long_written : (front middle whole : List ℕ) (n : ℕ) → 10000 ≤ n → n < 2 ^ 64 → middle ≡ front ++ decimal (n / 10000) → whole ≡ middle ++ four_digits (n % 10000)
    → whole ≡ front ++ decimal n
long_written front middle whole n lo hi e w =
    w ∙ (ap (λ (l : List ℕ). l ++ four_digits (n % 10000)) e ∙ (append_assoc front (decimal (n / 10000)) (four_digits (n % 10000)) ∙ ap (λ (l : List ℕ). front ++ l) (sym (four_last n lo hi))))

-- the count of one more number
pub counts_more : (old : List ℕ) (n c : ℕ) → n < length old → ((j : ℕ) → j < n → (slice_index old j ≡ length (decimal j)) × (slice_index old j ≤ 4)) → c ≡ length (decimal n) → c ≤ 4
    → (j : ℕ) → j < n + 1 → (slice_index (slice_set old n c) j ≡ length (decimal j)) × (slice_index (slice_set old n c) j ≤ 4)
counts_more old n c le each count few j low =
    elim (eq-zero-or-pos (n - j)) [
      | inl z ↦ let e : j ≡ n = omega (arith, low) in
          let is : slice_index (slice_set old n c) j ≡ c = ap (slice_index (slice_set old n c)) e ∙ get_or-set_same old n c 0 le in
          (is ∙ (count ∙ ap (λ (k : ℕ). length (decimal k)) (sym e)), omega (arith, is, few))
      | inr g ↦
          let is : slice_index (slice_set old n c) j ≡ slice_index old j = get_or-set_other old n j c 0 (λ e. omega (arith, e, g)) in
          let before = each j (omega arith) in
          (is ∙ before.0, omega (arith, is, before.1))
    ]
