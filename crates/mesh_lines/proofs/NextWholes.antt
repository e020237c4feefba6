-- The text of a whole coordinate, out of that of the one before it.
use Rattle.std.proofs.Common.{◌≡◌, ◌≢◌, ℕ, ◌+◌, ◌-◌, ◌/◌, ◌%◌, ◌<◌, ◌≤◌, ◌^◌, Bool, true, false, cond, if◌then◌else◌, eqb, List, [], ◌∷◌, ◌++◌, length, take, set, get_or, decimal, ◌⊎◌, inl, inr, refl, sym, ap, ◌∙◌, append_assoc, length-append, arith, eq-zero-or-pos}
use Rattle.std.proofs.lemmas.Bool.Decides.{eqb_tells}
use Rattle.std.proofs.lemmas.Fmt.{decimal_digit, decimal_step}
use Rattle.std.proofs.lemmas.List.{get_or-take, length-take-le}
use Rattle.std.proofs.Math.Seq.{get_or-append_seam, set-append_seam, take-set-lt}
use Rattle.mesh_lines.specs.RowLines.{is_layer, size_in_pad, whole_size, whole_text}
use Rattle.mesh_lines.specs.declared.style.Origin.{Origin}
use Rattle.mesh_lines.specs.declared.style.Origin.TheVariants.{Volume, Pad, Window, PaddedSlab}

-- a digit and a point end a text
digit_at : (front bytes : List ℕ) (len digit : ℕ) → len ≤ length bytes → take len bytes ≡ front ++ digit ∷ 46 ∷ [] → len - 2 ≡ length front
digit_at front bytes len digit room is =
    omega (arith, sym (length-take-le len bytes room) ∙ (ap length is ∙ length-append front (digit ∷ 46 ∷ [])))

two_more : (front bytes : List ℕ) (len digit : ℕ) → len ≤ length bytes → take len bytes ≡ front ++ digit ∷ 46 ∷ [] → len ≡ length front + 2
two_more front bytes len digit room is =
    sym (length-take-le len bytes room) ∙ (ap length is ∙ length-append front (digit ∷ 46 ∷ []))

digit_is : (front bytes : List ℕ) (len digit : ℕ) → len ≤ length bytes → take len bytes ≡ front ++ digit ∷ 46 ∷ [] → get_or bytes (len - 2) 0 ≡ digit
digit_is front bytes len digit room is =
    sym (get_or-take len bytes (len - 2) 0 (omega (arith, two_more front bytes len digit room is)))
    ∙ (ap (λ (l : List ℕ). get_or l (len - 2) 0) is
    ∙ (ap (λ i. get_or (front ++ digit ∷ 46 ∷ []) i 0) (digit_at front bytes len digit room is) ∙ get_or-append_seam front digit (46 ∷ []) 0))

-- and it is set to another
digit_set : (front bytes : List ℕ) (len digit next : ℕ) → len ≤ length bytes → take len bytes ≡ front ++ digit ∷ 46 ∷ []
    → take len (set bytes (len - 2) next) ≡ front ++ next ∷ 46 ∷ []
digit_set front bytes len digit next room is =
    take-set-lt len bytes (len - 2) next (omega (arith, two_more front bytes len digit room is))
    ∙ (ap (λ (l : List ℕ). set l (len - 2) next) is
    ∙ (ap (λ i. set (front ++ digit ∷ 46 ∷ []) i next) (digit_at front bytes len digit room is) ∙ set-append_seam front digit (46 ∷ []) next))

-- what the last digit of a text tells, and the text with the next one
pub record LastDigit (bytes : List ℕ) (len s : ℕ) : Type 0 where
  pub some : 2 ≤ len
  pub digit : get_or bytes (len - 2) 0 ≡ 48 + s % 10
  pub next : s % 10 < 9 → take len (set bytes (len - 2) (get_or bytes (len - 2) 0 + 1)) ≡ 32 ∷ (decimal (s + 1) ++ 46 ∷ [])

behind_front : (front bytes : List ℕ) (len s : ℕ) → len ≤ length bytes → take len bytes ≡ 32 ∷ (decimal s ++ 46 ∷ []) → decimal s ≡ front ++ (48 + s % 10) ∷ []
    → (s % 10 < 9 → decimal (s + 1) ≡ front ++ (48 + s % 10 + 1) ∷ []) → LastDigit bytes len s
behind_front front bytes len s room is now after =
    let digit : ℕ = 48 + s % 10 in
    let split : take len bytes ≡ (32 ∷ front) ++ digit ∷ 46 ∷ [] =
    is ∙ (ap (λ (l : List ℕ). 32 ∷ (l ++ 46 ∷ [])) now ∙ ap (λ (l : List ℕ). 32 ∷ l) (append_assoc front (digit ∷ []) (46 ∷ []))) in
    let told : get_or bytes (len - 2) 0 ≡ digit = digit_is (32 ∷ front) bytes len digit room split in
    record {
      some = omega (arith, two_more (32 ∷ front) bytes len digit room split);
      digit = told;
      next = λ low.
          ap (λ d. take len (set bytes (len - 2) (d + 1))) told
          ∙ (digit_set (32 ∷ front) bytes len digit (digit + 1) room split
          ∙ (ap (λ (l : List ℕ). 32 ∷ l) (sym (append_assoc front ((digit + 1) ∷ []) (46 ∷ []))) ∙ ap (λ (l : List ℕ). 32 ∷ (l ++ 46 ∷ [])) (sym (after low))));
    }

pub last_digit : (bytes : List ℕ) (len s : ℕ) → len ≤ length bytes → s < 10 ^ 10 → take len bytes ≡ 32 ∷ (decimal s ++ 46 ∷ []) → LastDigit bytes len s
last_digit bytes len s room low is =
    elim (eq-zero-or-pos (10 - s)) [
      | inr g ↦
          let one : s ≡ s % 10 = omega (arith, g) in
          behind_front [] bytes len s room is (decimal_digit s (omega (arith, g)) ∙ ap (λ (d : ℕ). (48 + d) ∷ []) one)
          (λ few. decimal_digit (s + 1) (omega (arith, g, few)) ∙ ap (λ (d : ℕ). d ∷ []) (omega (arith, one)))
      | inl z ↦ behind_front (decimal (s / 10)) bytes len s room is (decimal_step s (omega (arith, z)) (omega (arith, low)))
          (λ few.
          let above : (s + 1) / 10 ≡ s / 10 = omega (arith, few) in
          let below : 48 + (s + 1) % 10 ≡ 48 + s % 10 + 1 = omega (arith, few) in
          decimal_step (s + 1) (omega (arith, z)) (omega (arith, low))
          ∙ (ap (λ n. decimal n ++ (48 + (s + 1) % 10) ∷ []) above ∙ ap (λ d. decimal (s / 10) ++ d ∷ []) below))
    ]

-- a coordinate that does not lie in a pad's layer, and the next one
pub whole_is : (origin : Origin) (axis n : ℕ) → is_layer origin axis n ≡ false → whole_text origin axis n ≡ decimal (whole_size origin axis n) ++ 46 ∷ []
whole_is origin axis n inside = ap (λ b. cond b (45 ∷ []) [] ++ (decimal (whole_size origin axis n) ++ 46 ∷ [])) inside

not_first : (n : ℕ) → eqb (n + 1) 0 ≡ false
not_first n = inside (eqb_tells (n + 1) 0)
  where
    inside : ((eqb (n + 1) 0 ≡ true) × (n + 1 ≡ 0)) ⊎ ((eqb (n + 1) 0 ≡ false) × (n + 1 ≢ 0)) → eqb (n + 1) 0 ≡ false
    inside (inl e) = absurd (omega (arith, e.1))
    inside (inr e) = e.0

pub next_inside : (origin : Origin) (axis n : ℕ) → is_layer origin axis (n + 1) ≡ false
next_inside Volume axis n = refl
next_inside (Window at) axis n = refl
next_inside Pad axis n = not_first n
next_inside (PaddedSlab below) axis n = either (eqb axis 2)
  where
    either : (b : Bool) → (if b then false else eqb (n + 1) 0) ≡ false
    either true = refl
    either false = not_first n

next_in_pad : (n : ℕ) → eqb n 0 ≡ false → size_in_pad (n + 1) ≡ size_in_pad n + 1
next_in_pad n inside =
    let now : size_in_pad n ≡ n - 1 = ap (λ (b : Bool). if b then 1 else n - 1) inside in
    let after : size_in_pad (n + 1) ≡ n + 1 - 1 = ap (λ (b : Bool). if b then 1 else n + 1 - 1) (not_first n) in
    omega (arith, now, after, positive (eqb_tells n 0) inside)
  where
    positive : ((eqb n 0 ≡ true) × (n ≡ 0)) ⊎ ((eqb n 0 ≡ false) × (n ≢ 0)) → eqb n 0 ≡ false → 0 < n
    positive (inl e) inside = absurd (cc)
    positive (inr e) inside = omega (arith, e.1)

pub next_size : (origin : Origin) (axis n : ℕ) → is_layer origin axis n ≡ false → whole_size origin axis (n + 1) ≡ whole_size origin axis n + 1
next_size Volume axis n inside = refl
next_size (Window at) axis n inside = omega arith
next_size Pad axis n inside = next_in_pad n inside
next_size (PaddedSlab below) axis n inside = either (eqb axis 2) inside
  where
    either : (b : Bool) → (if b then false else eqb n 0) ≡ false → (if b then below + (n + 1) else size_in_pad (n + 1)) ≡ (if b then below + n else size_in_pad n) + 1
    either true inside = omega arith
    either false inside = next_in_pad n inside

pub whole_digit : (origin : Origin) (axis n : ℕ) (bytes : List ℕ) (len : ℕ) → len ≤ length bytes → whole_size origin axis n < 10 ^ 10 → is_layer origin axis n ≡ false
    → take len bytes ≡ 32 ∷ whole_text origin axis n → LastDigit bytes len (whole_size origin axis n)
whole_digit origin axis n bytes len room low inside is =
    last_digit bytes len (whole_size origin axis n) room low (is ∙ ap (λ (l : List ℕ). 32 ∷ l) (whole_is origin axis n inside))

-- the text of the next one
pub whole_next : (origin : Origin) (axis n : ℕ) → is_layer origin axis n ≡ false → 32 ∷ (decimal (whole_size origin axis n + 1) ++ 46 ∷ []) ≡ 32 ∷ whole_text origin axis (n + 1)
whole_next origin axis n inside =
    ap (λ (s : ℕ). 32 ∷ (decimal s ++ 46 ∷ [])) (sym (next_size origin axis n inside))
    ∙ ap (λ (l : List ℕ). 32 ∷ l) (sym (whole_is origin axis (n + 1) (next_inside origin axis n)))
