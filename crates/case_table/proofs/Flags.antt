-- Sets of faces, as lists of truth values and as numbers.
use Rattle.std.proofs.Common.{◌≡◌, ◌≢◌, ◌∙◌, ℕ, zero, suc, ◌+◌, ◌/◌, ◌%◌, ◌^◌, ◌<◌, ◌≤◌, ◌==◌, Bool, true, false, ◌||◌, not, ℤ, List, [], ◌∷◌, map, length, refl, sym, ap, inl, inr, arith, lit<, eq-eqb}
use Rattle.std.specs.List.{list_all, range_with_len}
use Rattle.std.proofs.lemmas.Bool.{and_parts, and_from, cases_eq, cases_Bool}
use Rattle.iso_defs.specs.Lists.{below}
use Rattle.iso_defs.specs.Face.{holds_at, is_ambiguous}
use Rattle.iso_defs.specs.Cell.{face_is_joined, face_signs, joined_of, signs_of}
use Rattle.iso_defs.specs.Bricks.{bits_of}
use Rattle.case_table.specs.Cases.{are_ambiguous}

-- a test that passes at all numbers of a range passes at each
all_at : (test : ℕ → Bool) (a n k : ℕ) → list_all test (range_with_len a n) ≡ true → a ≤ k → k < a + n → test k ≡ true
all_at test a zero k h low high = absurd (omega arith)
all_at test a (suc n) k h low high =
    let parts = and_parts (test a) (list_all test (range_with_len (a + 1) n)) h in
    elim (cases_eq k a) [
      | inl e ↦ ap test e ∙ parts.0
      | inr ne ↦ all_at test (a + 1) n k parts.1 (omega arith) (omega arith)
    ]

pub all_below_in : (test : ℕ → Bool) (n k : ℕ) → list_all test (below n) ≡ true → k < n → test k ≡ true
all_below_in test n k h l = all_at test 0 n k h (omega arith) (omega arith)

-- and the other way round
all_from : (test : ℕ → Bool) (a n : ℕ) → ((k : ℕ) → a ≤ k → k < a + n → test k ≡ true) → list_all test (range_with_len a n) ≡ true
all_from test a zero h = refl
all_from test a (suc n) h =
    and_from (test a) (list_all test (range_with_len (a + 1) n)) (h a (omega arith) (omega arith))
    (all_from test (a + 1) n (λ k low high. h k (omega arith) (omega arith)))

pub below_all_from : (test : ℕ → Bool) (n : ℕ) → ((k : ℕ) → k < n → test k ≡ true) → list_all test (below n) ≡ true
below_all_from test n h = all_from test 0 n (λ k low high. h k (omega arith))

-- a list of six flags by its flags
pub six_flags : (flags : List Bool) → length flags ≡ 6 → map (holds_at flags) (below 6) ≡ flags
six_flags (a ∷ b ∷ c ∷ d ∷ e ∷ f ∷ []) l = refl
six_flags [] l = absurd (omega arith)
six_flags (a ∷ []) l = absurd (omega arith)
six_flags (a ∷ b ∷ []) l = absurd (omega arith)
six_flags (a ∷ b ∷ c ∷ []) l = absurd (omega arith)
six_flags (a ∷ b ∷ c ∷ d ∷ []) l = absurd (omega arith)
six_flags (a ∷ b ∷ c ∷ d ∷ e ∷ []) l = absurd (omega arith)
six_flags (a ∷ b ∷ c ∷ d ∷ e ∷ f ∷ g ∷ gs) l = absurd (omega arith)

-- a flag that is set is one of the list
pub set_inside : (flags : List Bool) (k : ℕ) → holds_at flags k ≡ true → k < length flags
set_inside [] k h = cc
set_inside (b ∷ bs) zero h = omega arith
set_inside (b ∷ bs) (suc k) h = let inside : k < length bs = set_inside bs k h in omega arith

-- and what it says
pub flag_set : (p : ℕ → Bool) (k : ℕ) → holds_at (map p (below 6)) k ≡ true → p k ≡ true
flag_set p zero h = h
flag_set p (suc zero) h = h
flag_set p (suc (suc zero)) h = h
flag_set p (suc (suc (suc zero))) h = h
flag_set p (suc (suc (suc (suc zero)))) h = h
flag_set p (suc (suc (suc (suc (suc zero))))) h = h
flag_set p (suc (suc (suc (suc (suc (suc k)))))) h = cc

-- the first six bits of eight
pub first_bits : (n k : ℕ) → k < 6 → holds_at (bits_of 6 n) k ≡ holds_at (bits_of 8 n) k
first_bits n zero h = refl
first_bits n (suc zero) h = refl
first_bits n (suc (suc zero)) h = refl
first_bits n (suc (suc (suc zero))) h = refl
first_bits n (suc (suc (suc (suc zero)))) h = refl
first_bits n (suc (suc (suc (suc (suc zero))))) h = refl
first_bits n (suc (suc (suc (suc (suc (suc k)))))) h = absurd (omega arith)

-- a face that is set is ambiguous
abbrev pub allowed : List Bool → List Bool → ℕ → Bool
allowed signs joined f = not (holds_at joined f) || is_ambiguous (face_signs signs f)

pub is_allowed : (signs joined : List Bool) (f : ℕ) → (holds_at joined f ≡ true → is_ambiguous (face_signs signs f) ≡ true) → allowed signs joined f ≡ true
is_allowed signs joined f h = elim (cases_Bool (holds_at joined f)) [
  | inl e ↦ rw (e, h e) refl
  | inr e ↦ rw e refl
]

pub allowed_is : (signs joined : List Bool) (f : ℕ) → allowed signs joined f ≡ true → holds_at joined f ≡ true → is_ambiguous (face_signs signs f) ≡ true
allowed_is signs joined f h e = rw e at h

-- there are only six faces
no_face : (b : Bool) → (not b || false) ≡ true → b ≢ true
no_face true h e = cc
no_face false h e = cc

bit_clear : (n k : ℕ) → (n / 2 ^ k % 2 == 1) ≢ true → n / 2 ^ k % 2 ≡ 0
bit_clear n k h =
    let ne : n / 2 ^ k % 2 ≢ 1 = λ e. h (eq-eqb (n / 2 ^ k % 2) 1 e) in
    omega arith

pub only_six : (signs : List Bool) (n : ℕ) → n < 256 → are_ambiguous signs (bits_of 8 n) ≡ true → n < 64
only_six signs n small h =
    let six : n / 2 ^ 6 % 2 ≡ 0 = bit_clear n 6 (no_face (n / 2 ^ 6 % 2 == 1) (all_below_in (allowed signs (bits_of 8 n)) 8 6 h (lit< tt))) in
    let seven : n / 2 ^ 7 % 2 ≡ 0 = bit_clear n 7 (no_face (n / 2 ^ 7 % 2 == 1) (all_below_in (allowed signs (bits_of 8 n)) 8 7 h (lit< tt))) in
    omega arith

pub six_allowed : (signs : List Bool) (n : ℕ) → are_ambiguous signs (bits_of 8 n) ≡ true → are_ambiguous signs (bits_of 6 n) ≡ true
six_allowed signs n h = below_all_from (allowed signs (bits_of 6 n)) 6 (λ f l.
    is_allowed signs (bits_of 6 n) f (λ e. allowed_is signs (bits_of 8 n) f (all_below_in (allowed signs (bits_of 8 n)) 8 f h (omega arith)) (sym (first_bits n f l) ∙ e)))

-- the joined faces of eight values are among the ambiguous ones
pub values_allowed : (values : List ℤ) → are_ambiguous (signs_of values) (joined_of values) ≡ true
values_allowed values = below_all_from (allowed (signs_of values) (joined_of values)) 6 (λ f l.
    is_allowed (signs_of values) (joined_of values) f (λ e. (and_parts _ _ (flag_set (face_is_joined values) f e)).0))
